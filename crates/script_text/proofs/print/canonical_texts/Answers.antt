use Rattle.std.proofs.Common.{subst, sym}
use Rattle.script_text.specs.Text.{IsText}
use Rattle.script_text.proofs.Back.{back}
use Rattle.script_text.proofs.SoFar.{text_writable}
use Rattle.script_text.proofs.Unique.{one_script, script_or_fault}
use Rattle.script_text.proofs.print.canonical_texts.Goals as goal

pub returns-clause-back : goal.returns-clause-back
returns-clause-back c = back

pub returns-clause-script : goal.returns-clause-script
returns-clause-script c = text_writable

pub returns-clause-only : goal.returns-clause-only
returns-clause-only c bytes s read h is text = one_script bytes read s text (subst (λ b. IsText b s) (sym is) (back s h))

pub returns-clause-no_fault : goal.returns-clause-no_fault
returns-clause-no_fault c bytes s line reason h is fault = script_or_fault bytes s line reason (subst (λ b. IsText b s) (sym is) (back s h)) fault
