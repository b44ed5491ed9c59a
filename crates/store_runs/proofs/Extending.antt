-- What an event on one version asks, on a store that others may work on too.
use Rattle.std.proofs.Common.{◌≡◌, ℕ, ◌<◌, Bool, true, false, cond, refl, sym, ap, ◌∙◌, Option, Some, None, [], ◌∷◌}
use Rattle.std.specs.Prelude.{option_and_then}
use Rattle.std.proofs.lemmas.Bool.{eq-eqb, or_left}
use Rattle.lazy_rec.specs.declared.events.Op.{Op}
use Rattle.lazy_rec.specs.Kinds.{uses_base, uses_other, uses_argument, kind_number}
use Rattle.lazy_rec.specs.Tests.{is_some_and}
use Rattle.lazy_rec.specs.History.{event_name, is_second}
use Rattle.heap_store.specs.declared.versions.Version.{Version}
use Rattle.heap_store.specs.World.{World}
use Rattle.heap_store.specs.Rows.{Row, Ending, not_ended, is_ended, is_ended_at, row_at, version_of, version_at}
use Rattle.heap_store.specs.Hand.{Hand, contains}
use Rattle.heap_store.specs.View.{View, About}
use Rattle.heap_store.specs.RowCalls.{NameDrawn}
use Rattle.heap_store.proofs.Steps.{contains-append_right}
use Rattle.kind_table.specs.Kinds.{is_built}
use Rattle.version_book.specs.Pass.{Pass}
use Rattle.version_book.specs.Calls.{HasSeen, MayExtend}
use Rattle.version_book.proofs.InOrder.{not_ended_yet}
use Rattle.version_book.proofs.EventJobs.{version_later}

-- the row of a version has ended
seen_ended : (w : World) (v : Version) → version_at (row_at w) v.name ≡ Some v → is_ended_at (row_at w) (event_name v.name) ≡ true
seen_ended w v h = go (row_at w (event_name v.name)) h
  where
    ended : (e : Ending) → version_of v.name e ≡ Some v → is_ended e ≡ true
    ended not_ended g = absurd (none (is_second v.name) g)
      where
        none : (b : Bool) → cond {A = Option Version} b None None ≡ Some v → ⊥
        none true z = cc
        none false z = cc
    ended _ g = refl

    go : (o : Option Row) → option_and_then (λ (r : Row). version_of v.name r.ending) o ≡ Some v → is_some_and (λ (r : Row). is_ended r.ending) o ≡ true
    go None g = absurd (let z : None ≡ Some v = g in cc)
    go (Some r) g = ended r.ending g

-- a version that was seen has a smaller name than one that is drawn later
seen_older : (p q : View) (name : ℕ) (v : Version) → NameDrawn p q name → version_at (row_at p.seen) v.name ≡ Some v → event_name v.name < name
seen_older p q name v n seen = n.unseen (event_name v.name) 5 (λ none. not_ended_yet p.seen (event_name v.name) none (seen_ended p.seen v seen))

-- a name that was drawn is in hand
pub drawn_held : {p q : View} {name : ℕ} → NameDrawn p q name → contains q.hand.names name ≡ true
drawn_held {p} {q} {name} n = ap (λ (h : Hand). contains h.names name) n.hand ∙ contains-append_right p.hand.names (name ∷ []) name (or_left _ _ (eq-eqb name name refl))

pub may_extend_drawn : (p q : Pass) (name : ℕ) (op : Op) (base : Version) (arg : ℕ) → p.view.about.plan ≡ None → NameDrawn p.view q.view name → HasSeen p base → is_built base.kind op ≡ true → uses_base op ≡ true → uses_other op ≡ false → (uses_argument op ≡ false → arg ≡ 0) → MayExtend q name op base base arg
may_extend_drawn p q name op base arg free n seen built based alone argument =
    let later : HasSeen q base = version_later n.grows base.name base seen in
    let older = seen_older p.view q.view name base n seen in
    record {
      drawn = drawn_held n;
      built = built;
      based = based;
      kinds = eq-eqb (kind_number base.kind) (kind_number base.kind) refl;
      base_seen = later;
      other_seen = later;
      base_older = older;
      other_older = older;
      alone = λ _. refl;
      no_argument = argument;
      planned = λ events h. let z : None ≡ Some events = sym (ap (λ (a : About). a.plan) n.about ∙ free) ∙ h in cc;
    }
