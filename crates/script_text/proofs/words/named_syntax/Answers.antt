use Rattle.std.proofs.Common.{◌≡◌, ℕ, true, false, List, sym, ◌∙◌, take}
use Rattle.script_text.specs.declared.model.Form.{Form}
use Rattle.script_text.specs.Words.{look, operations, has_labels, syntax_of}
use Rattle.script_text.proofs.words.named_syntax.Goals as goal

with_labels : (form : Form) (w : List ℕ) → has_labels form ≡ true → look w operations ≡ syntax_of form w
with_labels form w h = rw h

without_labels : (form : Form) (w : List ℕ) → has_labels form ≡ false → look w (take 27 operations) ≡ syntax_of form w
without_labels form w h = rw h

pub returns-then-has_labels : goal.returns-then-has_labels
returns-then-has_labels c = c.look_up.ensures ∙ with_labels c.args.form c.args.word.now (sym c.has_labels.ensures ∙ c.if-has_labels.true)

pub returns-else-has_labels : goal.returns-else-has_labels
returns-else-has_labels c = c.look_up-else-has_labels.ensures ∙ without_labels c.args.form c.args.word.now (sym c.has_labels.ensures ∙ c.if-has_labels.false)
