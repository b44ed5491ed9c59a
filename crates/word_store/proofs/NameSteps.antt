-- Drawing a name keeps the rule.
use Rattle.std.proofs.Common.{◌≡◌, ◌≢◌, ℕ, suc, ◌+◌, ◌<◌, ◌≤◌, List, [], ◌∷◌, ◌++◌, length, refl, sym, ap, ap₂, ◌∙◌, arith, subst, Bool, true, false, cond, ◌||◌, ◌&&◌, eqb, ltb}
use Rattle.std.specs.Prelude.{slice_index, slice_set, sum_by, min}
use Rattle.std.proofs.lemmas.Bool.{true≢false, cases_lt, cases_eq, or_cases, or_left, or_right, eq-eqb, eqb-true, lt-ltb, le-ltb}
use Rattle.std.proofs.lemmas.List.{get_or-set_same, get_or-set_other, length-set}
use mathlib.Core.Logic.{⊎_elim}
use mathlib.Core.Option.{some}
use lib.ListN.{get_elem?}
use Rattle.heap_store.specs.World.{recs, is_published, is_claimed_at, fixed_places}
use Rattle.heap_store.specs.Rows.{row_at, is_ended_at}
use Rattle.heap_store.specs.Growth.{Grows}
use Rattle.heap_store.specs.Hand.{Hand, IsLawfulHand, contains, holds_claim, hand_named}
use Rattle.heap_store.specs.Shared.{one_if, added}
use Rattle.heap_store.proofs.GrowthLaws.{grows_refl}
use Rattle.heap_store.proofs.OpenLaws.{more_open}
use Rattle.word_world.specs.Words.{state_word_at, record_word_at, row_word_at}
use Rattle.word_world.specs.LawfulWords.{IsLawfulWords}
use Rattle.word_world.proofs.Worlds.{count_world, well_same, contains-append, append_distinct}
use Rattle.word_store.specs.declared.sight.Sight.{Sight}
use Rattle.word_store.specs.declared.sight.Size.{Size}
use Rattle.word_store.specs.Rule.{IsKept, IsSeat, shows, is_none_told, may_draw, KnowsRows, plan_of}
use Rattle.word_store.specs.Plays.{sight_after}
use Rattle.word_store.proofs.Sums.{zero_false, false_by, sum_below}
use Rattle.word_store.proofs.Moves.{St, Move, sees_now, no_draw}
use Rattle.word_store.proofs.Told.{tells_same}
use Rattle.word_store.proofs.Seats.{name_open}
use Rattle.word_store.proofs.Balances.{same_balance}
use Rattle.word_store.proofs.PlaceSteps.{full_if, calm_if}

module _ (k : Size) (s : St) (o : IsKept k s) (id : ℕ) (v : Sight) (me : get_elem? s.views id ≡ some v) (rights : 0 < length v.numbers) (x : ℕ) (ws : List ℕ) (is : x ≡ slice_index s.words 1) (at : ws ≡ slice_set s.words 1 (x + 1)) where
  f : IsSeat k s.words v
  f = o.seats id v me

  pub now : shows k ws ≡ shows k s.words
  now = ap (shows k) at ∙ count_world k.nodes k.rows s.words 1 (x + 1) (omega arith)

  pub word1 : slice_index ws 1 ≡ x + 1
  word1 = ap (λ (l : List ℕ). slice_index l 1) at ∙ get_or-set_same s.words 1 (x + 1) 0 (omega (arith, o.wide))

  other : (i : ℕ) → (i ≡ 1 → ⊥) → slice_index ws i ≡ slice_index s.words i
  other i ne = ap (λ (l : List ℕ). slice_index l i) at ∙ get_or-set_other s.words 1 i (x + 1) 0 ne

  word0 : slice_index ws 0 ≡ slice_index s.words 0
  word0 = other 0 (λ z. omega (arith, z))

  well : IsLawfulWords k.nodes k.rows (plan_of k) ws
  well = well_same k.nodes k.rows (plan_of k) ws s.words now (λ p there j low. other (record_word_at p j) (λ z. omega (arith, z))) (λ p. other (state_word_at p) (λ z. omega (arith, z))) (omega (arith, word1, is)) o.well

  -- what both outcomes have in common
  named : (h : Hand) → h.claims ≡ v.hand.claims → h.reserved ≡ v.hand.reserved → h.credits ≡ v.hand.credits → h.allowance ≡ v.hand.allowance → h.mine ≡ v.hand.mine → h.vain ≡ v.hand.vain
      → IsLawfulHand (shows k s.words) h → Rattle.word_store.specs.Rule.works_on_names h ≡ true
      → (k.rows < slice_index ws 1 → slice_index ws 1 + sum_by (may_draw k.rows) s.views + may_draw k.rows (sight_after v ws h v.wasted) ≤ k.rows + k.callers + may_draw k.rows v) → (k.callers ≡ 1 → slice_index ws 1 ≤ k.rows)
      → ((i : ℕ) → one_if (contains h.names (suc i)) + one_if (ltb i (min (slice_index s.words 1) k.rows)) ≡ one_if (contains v.hand.names (suc i)) + one_if (ltb i (min (slice_index ws 1) k.rows)))
      → Move k s o id v ws ws h v.wasted
  named h claims reserved credits allowance mine vain hand works few calm names =
      let full = full_if k s o id v me rights in
      record {
        long = ap length at ∙ length-set s.words 1 (x + 1);
        well = well;
        grows = subst (Grows (shows k s.words)) (sym now) (grows_refl (shows k s.words));
        sees = sees_now k v ws h v.wasted (λ any. (let l = full any in omega (arith, l, word0)));
        places_up = omega (arith, word0);
        names_up = omega (arith, word1, is);
        given = o.given;
        room = o.room;
        drawn = omega (arith, word0);
        full = λ any. (let l = full any in omega (arith, l, word0));
        short = λ more. absurd (omega (arith, more));
        most = f.wasted_most;
        few = few;
        calm = λ one. (calm_if k s o id v me rights one, calm one);
        hand = subst (λ w. IsLawfulHand w h) (sym now) hand;
        works = works;
        mine = λ i r e c. ap (λ xs. contains xs i) mine ∙ f.mine i r (ap (λ w. row_at w i) (sym now) ∙ e) c;
        vain = λ some. f.vain (ap Rattle.std.specs.Prelude.is_some (sym vain) ∙ some);
        vain_rows = o.vain_rows;
        tells = tells_same (subst (Grows (shows k s.words)) (sym now) (grows_refl (shows k s.words))) o.told v.wasted v.wasted v.hand.vain h.vain (ap (λ z. v.wasted + added z) (sym vain));
        hands = λ j u ne at'. subst (λ w. IsLawfulHand w u.hand) (sym now) (o.seats j u at').hand;
        others = λ j u ne at'. subst (λ w. KnowsRows w u.numbers u.hand) (sym now) (o.seats j u at').mine;
        claims = λ p. ap₂ (λ cs w. one_if (contains (Rattle.heap_store.specs.Hand.claim_places cs) p) + one_if (is_claimed_at w p)) claims (sym now);
        places = λ p. ap₂ (λ xs w. one_if (contains xs p) + one_if (is_published (recs w) p) + one_if (ltb p (fixed_places + o.given))) reserved now;
        names = λ i. omega (arith, names i, ap (λ w. one_if (is_ended_at (row_at w) (suc i))) now);
        lost = o.lost;
        balance = same_balance k s o id v me ws (sight_after v ws h v.wasted) now claims reserved credits allowance;
        records = λ p j low inside none unpublished. sym (other (record_word_at p j) (λ z. omega (arith, z)));
        states = λ p inside none claimed. sym (other (state_word_at p) (λ z. omega (arith, z)));
        row_words = λ i j none open_yet low few. sym (other (row_word_at k.nodes i j) (λ z. omega (arith, z)));
      }

  -- a name is drawn
  pub names_drawn : x < k.rows → Move k s o id v ws ws (hand_named v.hand (suc x)) v.wasted
  names_drawn room =
      let fresh : contains v.hand.names (suc x) ≡ false = false_by (contains v.hand.names (suc x)) (λ had. (let t = name_open k s o id v me x had in omega (arith, t.1, is))) in
      let open_yet : is_ended_at (row_at (shows k s.words)) (suc x) ≡ false = zero_false _ (omega (arith, o.names x, ap one_if (le-ltb x (min (slice_index s.words 1) k.rows) (omega (arith, is))))) in
      named (hand_named v.hand (suc x)) refl refl refl refl refl refl
      (record {
        claims = f.hand.claims;
        marked = f.hand.marked;
        claims_once = f.hand.claims_once;
        reserved = f.hand.reserved;
        reserved_once = f.hand.reserved_once;
        names = λ i had. ⊎_elim (f.hand.names i) (λ new. (let eq = only (suc x) i new in (omega (arith, eq), ap (is_ended_at (row_at (shows k s.words))) (sym eq) ∙ open_yet)))
            (or_cases (contains v.hand.names i) (contains ((suc x) ∷ []) i) (sym (contains-append v.hand.names ((suc x) ∷ []) i) ∙ had));
        names_once = append_distinct v.hand.names ((suc x) ∷ []) f.hand.names_once refl (λ p had. false_by _ (λ new. true≢false (sym had ∙ (ap (contains v.hand.names) (sym (only (suc x) p new)) ∙ fresh))));
      })
      (more_open v.hand.open_rows v.hand.names (suc x) f.works)
      (λ past. absurd (omega (arith, past, word1, room))) (λ one. omega (arith, word1, room))
      (λ i. ⊎_elim
      (λ eq. (let a : contains (v.hand.names ++ (suc x) ∷ []) (suc i) ≡ true = contains-append v.hand.names ((suc x) ∷ []) (suc i) ∙ or_right (contains v.hand.names (suc i)) _ (or_left (eqb (suc x) (suc i)) false (eq-eqb (suc x) (suc i) (omega (arith, eq)))) in
      let c : contains v.hand.names (suc i) ≡ false = ap (λ z. contains v.hand.names (suc z)) eq ∙ fresh in
      omega (arith, ap one_if a, ap one_if c, ap one_if (le-ltb i (min (slice_index s.words 1) k.rows) (omega (arith, eq, is))), ap one_if (lt-ltb i (min (slice_index ws 1) k.rows) (omega (arith, eq, word1, room))))))
      (λ ne. (let a : contains (v.hand.names ++ (suc x) ∷ []) (suc i) ≡ contains v.hand.names (suc i) = contains-append v.hand.names ((suc x) ∷ []) (suc i) ∙ or_false (contains v.hand.names (suc i)) (contains ((suc x) ∷ []) (suc i)) (false_by _ (λ new. ne (omega (arith, only (suc x) (suc i) new)))) in
      omega (arith, ap one_if a, same_below i ne)))
      (cases_eq i x))
    where
      or_false : (a b : Bool) → b ≡ false → (a || b) ≡ a
      or_false true b e = refl
      or_false false b e = rw e refl

      only : (a p : ℕ) → contains (a ∷ []) p ≡ true → a ≡ p
      only a p h = ⊎_elim (λ e. eqb-true a p e) (λ no_more. absurd (true≢false (sym no_more))) (or_cases (eqb a p) false h)

      same_below : (i : ℕ) → i ≢ x → one_if (ltb i (min (slice_index s.words 1) k.rows)) ≡ one_if (ltb i (min (slice_index ws 1) k.rows))
      same_below i ne = ⊎_elim
          (λ l. ap one_if (lt-ltb i (min (slice_index s.words 1) k.rows) l ∙ sym (lt-ltb i (min (slice_index ws 1) k.rows) (omega (arith, l, word1, is)))))
          (λ past. ap one_if (le-ltb i (min (slice_index s.words 1) k.rows) past ∙ sym (le-ltb i (min (slice_index ws 1) k.rows) (omega (arith, past, word1, is, ne)))))
          (cases_lt i (min (slice_index s.words 1) k.rows))

  -- no name was left
  pub names_past : v.told ≡ [] → slice_index v.words 1 < k.rows → k.rows ≤ x → (k.callers ≡ 1 → v.words ≡ s.words) → Move k s o id v ws ws v.hand v.wasted
  names_past told some_left past exact =
      let all : sum_by (may_draw k.rows) s.views ≤ sum_by (λ (u : Sight). length u.numbers) s.views = sum_below (may_draw k.rows) (λ (u : Sight). length u.numbers) s.views (λ u. part_most (is_none_told u.told && ltb (slice_index u.words 1) k.rows) (length u.numbers)) in
      let mine : may_draw k.rows v ≡ length v.numbers = ap₂ (λ (ts : List (ℕ × ℕ × List ℕ)) (b : Bool). cond {A = ℕ} (is_none_told ts && b) (length v.numbers) 0) told (lt-ltb (slice_index v.words 1) k.rows some_left) in
      let w : Sight = sight_after v ws v.hand v.wasted in
      named v.hand refl refl refl refl refl refl f.hand f.works
      (λ more. (let none = no_draw k.rows w (omega (arith, more)) in ⊎_elim
      (λ more_past. (let l = o.few (omega (arith, more_past, is)) in omega (arith, l, word1, is, mine, rights, none))) (λ at_end. omega (arith, at_end, past, word1, all, o.callers, mine, rights, none)) (cases_lt k.rows x)))
      (λ one. absurd (omega (arith, some_left, past, is, ap (λ (l : List ℕ). slice_index l 1) (exact one))))
      (λ i. (let a : min (slice_index s.words 1) k.rows ≡ min (slice_index ws 1) k.rows = omega (arith, word1, is, past) in omega (arith, ap (λ z. one_if (ltb i z)) a)))
    where
      part_most : (b : Bool) (n : ℕ) → cond {A = ℕ} b n 0 ≤ n
      part_most true n = omega arith
      part_most false n = omega arith
