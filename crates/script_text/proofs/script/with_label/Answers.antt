use Rattle.std.proofs.Common.{◌≡◌, ℕ, false, List, sym, ap, ◌∙◌}
use Rattle.script_text.specs.declared.model.Form.{Form}
use Rattle.script_text.specs.Words.{look}
use Rattle.script_text.specs.Labels.{names_in}
use Rattle.script_text.specs.Events.{Names, labels_line}
use Rattle.script_text.specs.Text.{labels_with}
use Rattle.script_text.proofs.script.with_label.Goals as goal

none_kept : (form : Form) (first : List ℕ) (n : ℕ) (kept : List (List ℕ × ℕ)) (names : Names) (w : List ℕ) → labels_line form first ≡ false → names w ≡ look w kept → names w ≡ look w (labels_with form first n kept)
none_kept form first n kept names w h same = rw h same

pub returns-else-labels_line : goal.returns-else-labels_line
returns-else-labels_line c kept same w =
    none_kept c.args.before.now.form c.args.first.now _ kept (names_in c.args.labels.now) w (ap (λ f. labels_line f c.args.first.now) (sym c.form_of.ensures) ∙ (sym c.labels_line.ensures ∙ c.if-labels_line.false)) (same w)
