use Rattle.std.proofs.Common.{◌≡◌, suc, Some, ◌∷◌, [], ◌++◌, length, sym, subst}
use Rattle.lazy_rec.specs.History.{event_of, kind_of}
use Rattle.script_text.specs.Events.{ScriptView}
use Rattle.script_text.specs.Text.{Follows}
use Rattle.script_text.proofs.Follow.{writable_more, kinds_more}
use Rattle.script_text.proofs.script.Script.push.Goals as goal

pub invariant_of-self-in-Ok : goal.invariant_of-self-in-Ok
invariant_of-self-in-Ok c =
    let s : ScriptView = record { form = c.self.inside.form; events = c.self.inside.events.items } in
    let e = c.args.event in
    let kind = c.kind_made-kind.result in
    let same : c.args.self.now ≡ s = sym c.self.view_is in
    let next : Follows s e = subst (λ (t : ScriptView). Follows t e) same c.requires in
    let its = subst (λ (t : ScriptView). Some kind ≡ kind_of (event_of (t.events ++ e ∷ [])) (suc (length t.events))) same c.kind_made-kind.ensures in
    let kinds = kinds_more s.events c.self.inside.kinds.items e kind c.self.invariant.1 its in (
      rw (c.push-2.ensures.items, c.in-Ok.is) (writable_more s e c.self.invariant.0 next),
      rw (c.push-2.ensures.items, c.in-Ok.is, c.in_ok-push.ensures.items) kinds,
    )
