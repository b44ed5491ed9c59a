use Rattle.std.proofs.lemmas.Map.Text.{hash_map_updates_str}
use Rattle.std.proofs.Common.{Some, cond, ◌∙◌, ap}
use Rattle.std.specs.Cmp.Lexicographic.{nat_list_eq_equiv}
use Rattle.script_text.specs.Labels.{names_in}
use Rattle.script_text.proofs.versions.keep_label.Goals as goal

pub returns : goal.returns
returns c = λ w.
    let put = hash_map_updates_str c.args.label.now c.args.labels.now c.insert.new.self (Some c.args.name) c.in_ok-insert.ensures.updates w in
    let turned = nat_list_eq_equiv.symm c.args.label.now w in
    put ∙ ap (λ b. cond b (Some c.args.name) (names_in c.args.labels.now w)) turned
