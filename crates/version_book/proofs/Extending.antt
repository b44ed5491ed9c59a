-- For callers of the library: how what a call on one version asks follows from what the calls before it told, on a store that no
-- other works on.
use Rattle.std.proofs.Common.{◌≡◌, ℕ, ◌+◌, ◌<◌, refl, sym, ap, ◌∙◌, arith, true, false, Some, None, ⊎_elim}
use Rattle.std.specs.Prelude.{option_and_then}
use Rattle.std.proofs.lemmas.Bool.{eq-eqb, cases_lt}
use Rattle.lazy_rec.specs.declared.events.Op.{Op}
use Rattle.lazy_rec.specs.Kinds.{uses_base, uses_other, uses_argument, kind_number}
use Rattle.lazy_rec.specs.History.{event_name}
use Rattle.heap_store.specs.declared.versions.Version.{Version}
use Rattle.heap_store.specs.Rows.{Row, row_at, version_of}
use Rattle.heap_store.specs.Growth.{Grows}
use Rattle.heap_store.specs.View.{IsLawfulView}
use Rattle.heap_store.specs.RowCalls.{NameDrawn}
use Rattle.kind_table.specs.Kinds.{is_built}
use Rattle.version_book.specs.declared.answers.Refuse.{Refuse}
use Rattle.version_book.specs.declared.answers.Refuse.TheVariants as refusals
use Rattle.version_book.specs.Pass.{Pass}
use Rattle.version_book.specs.Calls.{HasSeen, MayExtend, IsOutOfNames}
use Rattle.version_book.specs.Solo.{IsSolo, HasTicket}
use Rattle.version_book.proofs.InOrder.{ticket}
use Rattle.version_book.proofs.EventJobs.{version_later}

-- ---- the pass stays one that works alone

pub still_solo : {p q : Pass} → IsSolo p → q.view.about ≡ p.view.about → q.caller ≡ p.caller → IsSolo q
still_solo solo about caller = record {
  alone = rw about solo.alone;
  plan = rw about solo.plan;
  caller = caller ∙ solo.caller;
}

-- where no name is left, nothing has changed
pub same_without_name : (p q : Pass) (refuse : Refuse) → IsSolo p → IsOutOfNames p.view q.view refuse → q.view ≡ p.view
same_without_name p q (refusals.NamesFull none) solo told = (told.alone solo.alone).0
same_without_name p q (refusals.StoreFull full) solo told = absurd told
same_without_name p q refusals.NoMemory solo told = absurd told

-- ---- versions

-- a version that was seen is seen from then on
pub seen_later : (p q : Pass) (v : Version) → Grows p.view.seen q.view.seen → HasSeen p v → HasSeen q v
seen_later p q v grows seen = version_later grows v.name v seen

-- its event has a name that is drawn already
pub seen_named : (p : Pass) (v : Version) → IsSolo p → IsLawfulView p.view → HasSeen p v → event_name v.name < p.view.named + 1
seen_named p v solo lawful seen = ⊎_elim (λ low. low) (λ high. absurd (none (lawful.unnamed solo.alone (event_name v.name) (omega (arith, high))))) (cases_lt (event_name v.name) (p.view.named + 1))
  where
    none : row_at p.view.seen (event_name v.name) ≡ None → ⊥
    none h = let z : None ≡ Some v = sym (ap (option_and_then (λ (r : Row). version_of v.name r.ending)) h) ∙ seen in cc

-- ---- what a call on one version asks

pub may_extend_one : (p q : Pass) (name : ℕ) (op : Op) (base : Version) (arg : ℕ) → IsSolo p → IsLawfulView p.view → NameDrawn p.view q.view name → q.caller ≡ p.caller → HasSeen p base → is_built base.kind op ≡ true → uses_base op ≡ true → uses_other op ≡ false → (uses_argument op ≡ false → arg ≡ 0) → MayExtend q name op base base arg
may_extend_one p q name op base arg solo lawful drawn caller seen built based alone argument =
    let t : HasTicket p q name = ticket solo drawn caller in
    let older : event_name base.name < name = rw t.next (seen_named p base solo lawful seen) in
    let seen' : HasSeen q base = rw t.seen seen in
    record {
      drawn = t.drawn;
      built = built;
      based = based;
      kinds = eq-eqb (kind_number base.kind) (kind_number base.kind) refl;
      base_seen = seen';
      other_seen = seen';
      base_older = older;
      other_older = older;
      alone = λ _. refl;
      no_argument = argument;
      planned = λ events h. let z : None ≡ Some events = sym (rw t.about solo.plan) ∙ h in cc;
    }
