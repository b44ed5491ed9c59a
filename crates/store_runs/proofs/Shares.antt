-- What a share has counted.
use Rattle.std.proofs.Common.{◌≡◌, ℕ, true, false, not, List, [], ◌∷◌, Option, Some, None, refl, sym, ap, ◌∙◌, subst, eqb, ⊎_elim, inr, Bool}
use Rattle.std.proofs.lemmas.Bool.{true≢false, and_from, or_cases, or_left, or_right, eq-eqb, eqb-true}
use Rattle.lazy_rec.specs.Tests.{is_some_and}
use Rattle.heap_store.specs.World.{World, is_claimed_at, is_done, done_at}
use Rattle.heap_store.specs.Growth.{Grows}
use Rattle.heap_store.specs.Hand.{contains, all_distinct}
use Rattle.heap_store.proofs.GrowthLaws.{done_grows}
use Rattle.word_store.proofs.RuleLaws.{done_unclaimed}
use Rattle.store_runs.specs.declared.tries.Share.{Share}
use Rattle.store_runs.specs.Tries.{with_one, with_all, steps_at, HasCompleted, CountsOne, IsShare}

-- ---- done and undone

done_there : (o : Option (ℕ × ℕ)) → is_some_and (λ d. true) o ≡ true → (d : ℕ × ℕ) × (o ≡ Some d)
done_there None e = absurd (true≢false (sym e))
done_there (Some d) e = (d, refl)

done_stays : {a b : World} → Grows a b → (s : ℕ) → is_done a s ≡ true → is_done b s ≡ true
done_stays {a} {b} g s e = let t = done_there (done_at a s) e in ap (is_some_and (λ (d : ℕ × ℕ). true)) (done_grows g s t.0 t.1)

undone_before : {a b : World} → Grows a b → (s : ℕ) → is_done b s ≡ false → is_done a s ≡ false
undone_before {a} {b} g s e = by (is_done a s) refl
  where
    by : (t : Bool) → is_done a s ≡ t → is_done a s ≡ false
    by true h = absurd (true≢false (sym (done_stays g s h) ∙ e))
    by false h = h

steps_stay : {a b : World} → Grows a b → (s : ℕ) → is_done a s ≡ true → steps_at b s ≡ steps_at a s
steps_stay {a} {b} g s e = let t = done_there (done_at a s) e in ap (λ (o : Option (ℕ × ℕ)). elim o [ None ↦ 0 | Some d ↦ d.1 ]) (done_grows g s t.0 t.1 ∙ sym t.1)

-- what is claimed isn't done
claimed_undone : (w : World) (s : ℕ) → is_claimed_at w s ≡ true → is_done w s ≡ false
claimed_undone w s e = by (is_done w s) refl
  where
    by : (t : Bool) → is_done w s ≡ t → is_done w s ≡ false
    by true h = absurd (done_unclaimed w s h e)
    by false h = h

-- ---- shares

with_grown : {v w : World} → Grows v w → (a : Share) (ss : List ℕ) → ((s : ℕ) → contains ss s ≡ true → is_done v s ≡ true) → with_all w a ss ≡ with_all v a ss
with_grown g a [] done = refl
with_grown {v} {w} g a (s ∷ ss) done =
    ap (λ b. with_one b (steps_at w s)) (with_grown g a ss (λ p had. done p (or_right (eqb s p) _ had)))
    ∙ ap (with_one (with_all v a ss)) (steps_stay g s (done s (or_left (eqb s s) _ (eq-eqb s s refl))))

-- more of the world is seen
share_grows : {u v w : World} {a b : Share} → Grows v w → IsShare u v a b → IsShare u w a b
share_grows {u} {v} {w} {a} g t = record {
  places = t.places;
  once = t.once;
  before = t.before;
  done = λ s had. done_stays g s (t.done s had);
  share = t.share ∙ sym (with_grown g a t.places t.done);
}

-- as it was, in a world of which less was seen
pub share_after : {u v w : World} {a b : Share} → Grows u v → IsShare v w a b → IsShare u w a b
share_after g t = record { places = t.places; once = t.once; before = λ s had. undone_before g s (t.before s had); done = t.done; share = t.share }

-- one turn more
pub share_turn : {u v w : World} {a b c : Share} → Grows u v → Grows v w → (s : ℕ) → IsShare u v a b → CountsOne v w s b c → IsShare u w a c
share_turn {u} {v} {w} {a} {b} {c} before g s t turn = ⊎_elim
    (λ same. subst (IsShare u w a) (sym same) (share_grows g t))
    (λ one. record {
      places = s ∷ t.places;
      once = and_from (not (contains t.places s)) (all_distinct t.places) (new one (contains t.places s) refl) t.once;
      before = λ p had. ⊎_elim (λ eq. subst (λ q. is_done u q ≡ false) (eqb-true s p eq) (undone_before before s one.before)) (t.before p) (or_cases (eqb s p) (contains t.places p) had);
      done = λ p had. ⊎_elim (λ eq. subst (λ q. is_done w q ≡ true) (eqb-true s p eq) one.done) (λ old. done_stays g p (t.done p old)) (or_cases (eqb s p) (contains t.places p) had);
      share = one.share ∙ ap (λ x. with_one x (steps_at w s)) (t.share ∙ sym (with_grown g a t.places t.done));
    })
    turn
  where
    new : HasCompleted v w s b c → (z : Bool) → contains t.places s ≡ z → not z ≡ true
    new one true e = absurd (true≢false (sym (t.done s e) ∙ one.before))
    new one false e = refl

-- a suspension that was claimed is done
pub counts_one : {u v w : World} {a b : Share} → Grows u v → (s place steps : ℕ) → is_claimed_at v s ≡ true → done_at w s ≡ Some (place, steps) → b ≡ with_one a steps → CountsOne u w s a b
counts_one {u} {v} {w} {a} g s place steps claimed done same = inr (record {
  before = undone_before g s (claimed_undone v s claimed);
  done = ap (is_some_and (λ (d : ℕ × ℕ). true)) done;
  share = same ∙ ap (with_one a) (sym (ap (λ (o : Option (ℕ × ℕ)). elim o [ None ↦ 0 | Some d ↦ d.1 ]) done));
})
