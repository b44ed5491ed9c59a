-- What a put asks of a record's laws may be told before the put, of the world as it is.
use Rattle.std.proofs.Common.{◌≡◌, ℕ, refl, sym, ap, ◌∙◌, arith, ⊎_elim, true, false, Some, None}
use Rattle.std.specs.Prelude.{option_map}
use Rattle.std.proofs.lemmas.List.{get_or-set_other}
use Rattle.std.proofs.lemmas.Bool.{true≢false, cases_eq}
use Rattle.lazy_rec.specs.declared.records.Rec.{Rec}
use Rattle.lazy_rec.specs.declared.states.SuspState.{SuspState}
use Rattle.lazy_rec.specs.declared.states.SuspState.TheVariants.{Unforced}
use Rattle.heap_store.specs.declared.nodes.Node.{Node}
use Rattle.heap_store.specs.World.{World, recs, state_at, node_at, is_published, show}
use Rattle.heap_store.specs.Growth.{Grows}
use Rattle.heap_store.specs.Lawful.{HasLaws}
use Rattle.heap_store.specs.Hand.{contains}
use Rattle.heap_store.specs.View.{View, IsLawfulView}
use Rattle.heap_store.proofs.GrowthLaws.{named_of, rec_there}
use Rattle.heap_store.proofs.ShowLaws.{one_value}
use Rattle.heap_store.proofs.LawfulLaws.{lawful_names, laws_named}

module _ (w : World) (p : ℕ) (r : Rec) (none : is_published (recs w) p ≡ false) where
  other : (q : ℕ) → (q ≡ p → ⊥) → node_at (show w p r (Unforced 0)) q ≡ node_at w q
  other q ne = get_or-set_other w.nodes p q (Some (record { rec = r; state = Unforced 0 })) None ne

  no_rec : (q : ℕ) (t : Rec) → q ≡ p → recs w q ≡ Some t → ⊥
  no_rec q t eq e = let k : is_published (recs w) q ≡ true = rw e refl in true≢false (sym k ∙ (ap (is_published (recs w)) eq ∙ none))

  no_state : (q : ℕ) (t : SuspState) → q ≡ p → state_at w q ≡ Some t → ⊥
  no_state q t eq e = let k = rec_there w q t e in no_rec q k.0 eq k.1

  -- a world with one more record, at a place that wasn't published, has grown
  pub fresh_grows : Grows w (show w p r (Unforced 0))
  fresh_grows = record {
    records = λ q t e. ⊎_elim (λ eq. absurd (no_rec q t eq e)) (λ ne. ap (option_map (λ (n : Node). n.rec)) (other q ne) ∙ e) (cases_eq q p);
    done = λ q t e k. ⊎_elim (λ eq. absurd (no_state q t eq e)) (λ ne. ap (option_map (λ (n : Node). n.state)) (other q ne) ∙ e) (cases_eq q p);
    given_up = λ q t u e k. ⊎_elim
        (λ eq. absurd (no_state q t eq e))
        (λ ne. (let z = one_value t u (sym e ∙ (sym (ap (option_map (λ (n : Node). n.state)) (other q ne)) ∙ k)) in rw z (omega arith)))
        (cases_eq q p);
    begun = λ i t e. e;
    ended = λ i t e k. e;
  }

pub told_grows : {v : View} → IsLawfulView v → (p : ℕ) → contains v.hand.reserved p ≡ true → (r : Rec) → Grows v.seen (show v.seen p r (Unforced 0))
told_grows {v} law p held r = fresh_grows v.seen p r (law.hand.reserved p held)

pub laws_told : {v : View} → IsLawfulView v → (p : ℕ) → contains v.hand.reserved p ≡ true → (r : Rec) → HasLaws v.seen p r → HasLaws (show v.seen p r (Unforced 0)) p r
laws_told {v} law p held r h = laws_named v.seen (show v.seen p r (Unforced 0)) (lawful_names law.world) (told_grows law p held r) p r (named_of v.seen p r h.names) h
