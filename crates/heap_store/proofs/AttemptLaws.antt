-- How the counts of attempts that were given back move.
use Rattle.std.proofs.Common.{◌≡◌, ℕ, ◌<◌, ◌≤◌, length, Option, Some, None, sym, ap, ◌∙◌, subst, arith, ⊎_elim, refl}
use Rattle.std.specs.Prelude.{option_map, slice_set}
use Rattle.std.proofs.lemmas.Bool.{cases_eq, cases_lt}
use Rattle.std.proofs.lemmas.List.{get_or-set_other, get_or_past, length-set}
use Rattle.lazy_rec.specs.declared.records.Rec.{Rec}
use Rattle.lazy_rec.specs.declared.states.SuspState.{SuspState}
use Rattle.lazy_rec.specs.declared.states.SuspState.TheVariants.{Unforced}
use Rattle.lazy_rec.specs.States.{given_up}
use Rattle.heap_store.specs.declared.nodes.Node.{Node}
use Rattle.heap_store.specs.World.{World, state_at, show, attempts_of, attempts_at, SameAttempts}
use Rattle.heap_store.specs.Growth.{Grows}
use Rattle.heap_store.proofs.GrowthLaws.{state_there, rec_there}
use Rattle.heap_store.proofs.ShowLaws.{state-same}

pub attempts_grow : {a b : World} → Grows a b → (p : ℕ) → attempts_at a p ≤ attempts_at b p
attempts_grow {a} {b} g p = go (state_at a p) refl
  where
    go : (o : Option SuspState) → state_at a p ≡ o → attempts_of o ≤ attempts_of (state_at b p)
    go None e = omega arith
    go (Some s) e =
        let r = rec_there a p s e in
        let t = state_there b p r.0 (g.records p r.0 r.1) in
        rw t.1 (g.given_up p s t.0 e t.1)

-- other places' counts stay
pub other_attempts : (w : World) (p : ℕ) (r : Rec) (s : SuspState) (q : ℕ) → (q ≡ p → ⊥) → attempts_at (show w p r s) q ≡ attempts_at w q
other_attempts w p r s q ne = ap (λ o. attempts_of (option_map (λ (n : Node). n.state) o)) (get_or-set_other w.nodes p q (Some (record { rec = r; state = s })) None ne)

inside : (w : World) (p : ℕ) (s : SuspState) → state_at w p ≡ Some s → p < length w.nodes
inside w p s e = ⊎_elim (λ l. l)
    (λ l. (let none : state_at w p ≡ None = ap (option_map (λ (n : Node). n.state)) (get_or_past w.nodes p None l) in let z : None ≡ Some s = sym none ∙ e in cc))
    (cases_lt p (length w.nodes))

pub own_attempts : (w : World) (p : ℕ) (r : Rec) (s old : SuspState) → state_at w p ≡ Some old → attempts_at (show w p r s) p ≡ given_up s
own_attempts w p r s old e = ap attempts_of (state-same w p r s (inside w p old e))

-- a state that changes, with the same count
pub changed_attempts : (w : World) (p : ℕ) (r : Rec) (s old : SuspState) → state_at w p ≡ Some old → given_up s ≡ given_up old → SameAttempts w (show w p r s)
changed_attempts w p r s old e same q = ⊎_elim
    (λ z. subst (λ k. attempts_at (show w p r s) k ≡ attempts_at w k) (sym z) (own_attempts w p r s old e ∙ (same ∙ sym (ap attempts_of e))))
    (λ ne. other_attempts w p r s q ne)
    (cases_eq q p)

-- a record that is put
pub put_attempts : (w : World) (p : ℕ) (r : Rec) → Grows w (show w p r (Unforced 0)) → SameAttempts w (show w p r (Unforced 0))
put_attempts w p r g q = ⊎_elim
    (λ z. subst (λ k. attempts_at (show w p r (Unforced 0)) k ≡ attempts_at w k) (sym z) own)
    (λ ne. other_attempts w p r (Unforced 0) q ne)
    (cases_eq q p)
  where
    none_yet : attempts_at (show w p r (Unforced 0)) p ≡ 0
    none_yet = ⊎_elim
        (λ l. ap attempts_of (state-same w p r (Unforced 0) l))
        (λ l. ap (λ o. attempts_of (option_map (λ (n : Node). n.state) o)) (get_or_past (slice_set w.nodes p (Some (record { rec = r; state = Unforced 0 }))) p None (rw (length-set w.nodes p (Some (record { rec = r; state = Unforced 0 }))) l)))
        (cases_lt p (length w.nodes))

    own : attempts_at (show w p r (Unforced 0)) p ≡ attempts_at w p
    own = omega (arith, none_yet, attempts_grow g p)
