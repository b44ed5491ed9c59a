-- The steps on places keep the rule: loads, draws, and what is stored of a record.
use Rattle.std.proofs.Common.{◌≡◌, ℕ, suc, ◌+◌, ◌<◌, ◌≤◌, List, [], ◌++◌, length, refl, sym, ap, ap₂, ◌∙◌, arith, subst, true, false, Option, Some, None, ltb, cond, ◌&&◌}
use Rattle.std.specs.Prelude.{slice_index, slice_set, sum_by, is_some, option_map}
use Rattle.std.proofs.lemmas.Bool.{true≢false, cases_lt, cases_eq}
use Rattle.std.proofs.lemmas.List.{get_or-set_same, get_or-set_other, length-set}
use mathlib.Core.Logic.{⊎_elim}
use mathlib.Core.Option.{some}
use lib.ListN.{get_elem?}
use Rattle.lazy_rec.specs.declared.records.Rec.{Rec}
use Rattle.lazy_rec.specs.Named.{at_record}
use Rattle.heap_store.specs.World.{recs, is_published, is_claimed_at, fixed_places}
use Rattle.heap_store.specs.Rows.{row_at, is_ended_at}
use Rattle.heap_store.specs.Growth.{Grows}
use Rattle.heap_store.specs.Hand.{Hand, IsLawfulHand, contains, holds_claim, hand_reserved, places_from, claim_places}
use Rattle.heap_store.specs.Shared.{one_if, added}
use Rattle.heap_store.specs.Budget.{room_of}
use Rattle.heap_store.proofs.GrowthLaws.{grows_refl}
use Rattle.word_world.specs.Words.{state_word_at, record_word_at, row_word_at, places_of, world_of}
use Rattle.word_world.specs.LawfulWords.{IsLawfulWords}
use Rattle.word_world.proofs.Worlds.{count_world, fill_world, well_same, contains-append, run-contains, run_distinct, append_distinct, run_counts}
use Rattle.word_store.specs.declared.sight.Sight.{Sight}
use Rattle.word_store.specs.declared.sight.Size.{Size}
use Rattle.word_store.specs.Rule.{IsKept, IsSeat, shows, seen_by, may_draw, is_none_told, works_on_names, KnowsRows, plan_of}
use Rattle.word_store.specs.Plays.{sight_after, vain_hand}
use Rattle.word_store.proofs.Sums.{one_true, false_by, term_le}
use Rattle.word_store.proofs.Moves.{St, Move, sees_now, no_draw}
use Rattle.word_store.proofs.Told.{tells_same, none_added}
use Rattle.word_store.proofs.Seats.{place_given}
use Rattle.word_store.proofs.Balances.{same_balance, reserved_balance}
use Rattle.word_store.proofs.Given.{room_left}

module _ (k : Size) (s : St) (o : IsKept k s) (id : ℕ) (v : Sight) (me : get_elem? s.views id ≡ some v) (rights : 0 < length v.numbers) where
  f : IsSeat k s.words v
  f = o.seats id v me

  sizes : (v.nodes ≡ k.nodes) × (v.rows ≡ k.rows) × (v.callers ≡ k.callers) × (v.plan ≡ (plan_of k))
  sizes = (o.seats id v me).size rights

  base : seen_by v ≡ shows k v.words
  base = ap₂ (λ a b. world_of a b v.words) sizes.0 sizes.1

  pub full_if : 0 < v.wasted → k.nodes < slice_index s.words 0
  full_if any = o.full (let t = term_le (λ (u : Sight). u.wasted) s.views id v me in omega (arith, any, t))

  pub calm_if : k.callers ≡ 1 → v.wasted ≡ 0
  calm_if one = let c = o.calm one in let t = term_le (λ (u : Sight). u.wasted) s.views id v me in omega (arith, c.0, t)

  pub few_if : (ws : List ℕ) (h : Hand) (n : ℕ) → slice_index ws 1 ≡ slice_index s.words 1 → k.rows < slice_index ws 1 → slice_index ws 1 + sum_by (may_draw k.rows) s.views + may_draw k.rows (sight_after v ws h n) ≤ k.rows + k.callers + may_draw k.rows v
  few_if ws h n same past = let w : Sight = sight_after v ws h n in let z = no_draw k.rows w (omega (arith, past)) in let all = o.few (omega (arith, past, same)) in omega (arith, all, z, same)

  -- ---- loads

  -- nothing but the seat's hand changes, and of that no claim, place, name, credit or allowance
  pub looks : (h : Hand) → h.claims ≡ v.hand.claims → h.reserved ≡ v.hand.reserved → h.names ≡ v.hand.names → h.credits ≡ v.hand.credits → h.allowance ≡ v.hand.allowance
      → IsLawfulHand (shows k s.words) h → works_on_names h ≡ true → h.mine ≡ v.hand.mine → h.vain ≡ v.hand.vain → Move k s o id v s.words s.words h v.wasted
  looks h claims reserved names credits allowance lawful works mine vain = record {
    long = refl;
    well = o.well;
    grows = grows_refl (shows k s.words);
    sees = sees_now k v s.words h v.wasted full_if;
    places_up = omega arith;
    names_up = omega arith;
    given = o.given;
    room = o.room;
    drawn = omega arith;
    full = full_if;
    short = λ more. absurd (omega (arith, more));
    most = f.wasted_most;
    few = few_if s.words h v.wasted refl;
    calm = λ one. (calm_if one, (o.calm one).1);
    hand = lawful;
    works = works;
    mine = λ i r e c. ap (λ xs. contains xs i) mine ∙ f.mine i r e c;
    vain = λ some. f.vain (ap is_some (sym vain) ∙ some);
    vain_rows = o.vain_rows;
    tells = tells_same (grows_refl (shows k s.words)) o.told v.wasted v.wasted v.hand.vain h.vain (ap (λ z. v.wasted + added z) (sym vain));
    hands = λ j u ne at. (o.seats j u at).hand;
    others = λ j u ne at. (o.seats j u at).mine;
    claims = λ p. ap (λ cs. one_if (contains (claim_places cs) p) + one_if (is_claimed_at (shows k s.words) p)) claims;
    places = λ p. ap (λ xs. one_if (contains xs p) + one_if (is_published (recs (shows k s.words)) p) + one_if (ltb p (fixed_places + o.given))) reserved;
    names = λ i. omega (arith, ap (λ xs. one_if (contains xs (suc i))) names);
    lost = o.lost;
    balance = same_balance k s o id v me s.words (sight_after v s.words h v.wasted) refl claims reserved credits allowance;
    records = λ p j low inside none free. refl;
    states = λ p inside none claimed. refl;
    row_words = λ i j none open_yet low few. refl;
  }

  -- ---- places are drawn

  module _ (x a : ℕ) (ws : List ℕ) (is : x ≡ slice_index s.words 0) (at : ws ≡ slice_set s.words 0 (x + a)) where
    pub now : shows k ws ≡ shows k s.words
    now = ap (shows k) at ∙ count_world k.nodes k.rows s.words 0 (x + a) (omega arith)

    word0 : slice_index ws 0 ≡ x + a
    word0 = ap (λ (l : List ℕ). slice_index l 0) at ∙ get_or-set_same s.words 0 (x + a) 0 (omega (arith, o.wide))

    other : (i : ℕ) → (i ≡ 0 → ⊥) → slice_index ws i ≡ slice_index s.words i
    other i ne = ap (λ (l : List ℕ). slice_index l i) at ∙ get_or-set_other s.words 0 i (x + a) 0 ne

    well : IsLawfulWords k.nodes k.rows (plan_of k) ws
    well = well_same k.nodes k.rows (plan_of k) ws s.words now (λ p there j low. other (record_word_at p j) (λ z. omega (arith, z))) (λ p. other (state_word_at p) (λ z. omega (arith, z))) (omega (arith, other 1 (λ z. omega (arith, z)))) o.well

    -- so many, above all that were given
    pub draws : x + a ≤ k.nodes → a ≤ v.hand.allowance → Move k s o id v ws ws (hand_reserved v.hand (5 + x) a) v.wasted
    draws room fits =
        let given_is : o.given ≡ x = ⊎_elim (λ some. (let l = o.full some in absurd (omega (arith, l, room, is)))) (λ none. omega (arith, none, o.drawn, is)) (cases_lt 0 (sum_by (λ (u : Sight). u.wasted) s.views)) in
        let below : (p : ℕ) → contains v.hand.reserved p ≡ true → p < 5 + x = λ p had. (let g = place_given k s o id v me p had in omega (arith, g, given_is)) in
        let tally : (p : ℕ) → one_if (contains (v.hand.reserved ++ places_from (5 + x) a) p) + one_if (ltb p (5 + x)) ≡ one_if (contains v.hand.reserved p) + one_if (ltb p (5 + x + a)) = λ p. run_counts v.hand.reserved (5 + x) a p below in
        let h : Hand = hand_reserved v.hand (5 + x) a in
        let free : (p : ℕ) → 5 + x ≤ p → is_published (recs (shows k s.words)) p ≡ false = λ p high. false_by _ (λ had. (let t = one_true _ had in let all = o.places p in let out = ap one_if (Rattle.std.proofs.lemmas.Bool.le-ltb p (fixed_places + o.given) (omega (arith, high, given_is))) in omega (arith, t, all, out))) in
        record {
          long = ap length at ∙ length-set s.words 0 (x + a);
          well = well;
          grows = subst (Grows (shows k s.words)) (sym now) (grows_refl (shows k s.words));
          sees = sees_now k v ws h v.wasted (λ any. (let l = full_if any in omega (arith, l, word0, is)));
          places_up = omega (arith, word0, is);
          names_up = omega (arith, other 1 (λ z. omega (arith, z)));
          given = x + a;
          room = room;
          drawn = omega (arith, word0, given_is, is);
          full = λ any. (let l = full_if any in omega (arith, l, word0, is));
          short = λ more. absurd (omega (arith, more));
          most = f.wasted_most;
          few = few_if ws h v.wasted (other 1 (λ z. omega (arith, z)));
          calm = λ one. (calm_if one, (let c = (o.calm one).1 in omega (arith, c, other 1 (λ z. omega (arith, z)))));
          hand = subst (λ w. IsLawfulHand w h) (sym now) (record {
            claims = f.hand.claims;
            marked = f.hand.marked;
            claims_once = f.hand.claims_once;
            reserved = λ p had. ⊎_elim (f.hand.reserved p) (λ new. free p (run-contains (5 + x) a p new).0)
                (Rattle.std.proofs.lemmas.Bool.or_cases (contains v.hand.reserved p) (contains (places_from (5 + x) a) p) (sym (contains-append v.hand.reserved (places_from (5 + x) a) p) ∙ had));
            reserved_once = append_distinct v.hand.reserved (places_from (5 + x) a) f.hand.reserved_once (run_distinct (5 + x) a)
                (λ p had. false_by _ (λ new. (let b = below p had in let r = run-contains (5 + x) a p new in omega (arith, b, r.0))));
            names = f.hand.names;
            names_once = f.hand.names_once;
          });
          works = f.works;
          mine = subst (λ w. KnowsRows w v.numbers h) (sym now) f.mine;
          vain = f.vain;
          vain_rows = o.vain_rows;
          tells = tells_same (subst (Grows (shows k s.words)) (sym now) (grows_refl (shows k s.words))) o.told v.wasted v.wasted v.hand.vain v.hand.vain refl;
          hands = λ j u ne at'. subst (λ w. IsLawfulHand w u.hand) (sym now) (o.seats j u at').hand;
          others = λ j u ne at'. subst (λ w. KnowsRows w u.numbers u.hand) (sym now) (o.seats j u at').mine;
          claims = λ p. ap (λ w. one_if (holds_claim v.hand p) + one_if (is_claimed_at w p)) (sym now);
          places = λ p. omega (arith, tally p, ap (λ w. one_if (is_published (recs w) p)) now, ap (λ n. one_if (ltb p (fixed_places + n))) given_is, ap (λ n. one_if (ltb p n)) {x = 5 + x} {y = fixed_places + x} (omega arith), ap (λ n. one_if (ltb p n)) {x = 5 + x + a} {y = fixed_places + (x + a)} (omega arith));
          names = λ i. omega (arith, ap (λ w. one_if (is_ended_at (row_at w) (suc i))) now, ap (λ n. one_if (ltb i (Rattle.std.specs.Prelude.min n k.rows))) (other 1 (λ z. omega (arith, z))));
          lost = o.lost;
          balance = reserved_balance k s o id v me ws (sight_after v ws h v.wasted) (5 + x) a now refl fits;
          records = λ p j low inside none unpublished. sym (other (record_word_at p j) (λ z. omega (arith, z)));
          states = λ p inside none claimed. sym (other (state_word_at p) (λ z. omega (arith, z)));
          row_words = λ i j none open_yet low few. sym (other (row_word_at k.nodes i j) (λ z. omega (arith, z)));
        }

    -- where the number is more than the store has left, the store is smaller than what its begun events may take
    short_if : a ≤ v.hand.allowance → k.nodes < x + a → k.nodes < room_of (shows k ws)
    short_if fits over = subst (λ w. k.nodes < room_of w) (sym now) (⊎_elim o.short (λ none. (let l = room_left k s o id v me in omega (arith, l, fits, over, none, o.drawn, is))) (cases_lt 0 (sum_by (λ (u : Sight). u.wasted) s.views)))

    -- the number is added in vain
    pub draws_vain : v.told ≡ [] → slice_index v.words 0 + a ≤ k.nodes → a ≤ v.hand.allowance → 0 < a → k.nodes < x + a → (k.callers ≡ 1 → v.words ≡ s.words) → Move k s o id v ws ws (vain_hand v.hand x a) a
    draws_vain told asked fits positive over exact =
        let h : Hand = vain_hand v.hand x a in
        let none_yet : v.wasted ≡ 0 = ⊎_elim (λ any. (let l = f.seen_full told any in absurd (omega (arith, l, asked)))) (λ none. omega (arith, none)) (cases_lt 0 v.wasted) in
        record {
          long = ap length at ∙ length-set s.words 0 (x + a);
          well = well;
          grows = subst (Grows (shows k s.words)) (sym now) (grows_refl (shows k s.words));
          sees = sees_now k v ws h a (λ any. omega (arith, word0, over));
          places_up = omega (arith, word0, is);
          names_up = omega (arith, other 1 (λ z. omega (arith, z)));
          given = o.given;
          room = o.room;
          drawn = omega (arith, word0, is, none_yet);
          full = λ any. omega (arith, word0, over);
          short = λ _. short_if fits over;
          most = omega (arith, asked, o.small.0, rights);
          few = few_if ws h a (other 1 (λ z. omega (arith, z)));
          calm = λ one. absurd (omega (arith, asked, over, is, ap (λ (l : List ℕ). slice_index l 0) (exact one)));
          hand = subst (λ w. IsLawfulHand w h) (sym now) (record { claims = f.hand.claims; marked = f.hand.marked; claims_once = f.hand.claims_once; reserved = f.hand.reserved; reserved_once = f.hand.reserved_once; names = f.hand.names; names_once = f.hand.names_once });
          works = f.works;
          mine = subst (λ w. KnowsRows w v.numbers h) (sym now) f.mine;
          vain = λ _. positive;
          vain_rows = o.vain_rows;
          tells = tells_same (subst (Grows (shows k s.words)) (sym now) (grows_refl (shows k s.words))) o.told v.wasted a v.hand.vain (Some (record { drawn = x; wanted = a }))
              (omega (arith, none_yet, none_added v.hand.vain (λ some. (let any = f.vain some in omega (arith, any, none_yet)))));
          hands = λ j u ne at'. subst (λ w. IsLawfulHand w u.hand) (sym now) (o.seats j u at').hand;
          others = λ j u ne at'. subst (λ w. KnowsRows w u.numbers u.hand) (sym now) (o.seats j u at').mine;
          claims = λ p. ap (λ w. one_if (holds_claim v.hand p) + one_if (is_claimed_at w p)) (sym now);
          places = λ p. ap (λ w. one_if (contains v.hand.reserved p) + one_if (is_published (recs w) p) + one_if (ltb p (fixed_places + o.given))) now;
          names = λ i. omega (arith, ap (λ w. one_if (is_ended_at (row_at w) (suc i))) now, ap (λ n. one_if (ltb i (Rattle.std.specs.Prelude.min n k.rows))) (other 1 (λ z. omega (arith, z))));
          lost = o.lost;
          balance = same_balance k s o id v me ws (sight_after v ws h a) now refl refl refl refl;
          records = λ p j low inside none unpublished. sym (other (record_word_at p j) (λ z. omega (arith, z)));
          states = λ p inside none claimed. sym (other (state_word_at p) (λ z. omega (arith, z)));
          row_words = λ i j none open_yet low few. sym (other (row_word_at k.nodes i j) (λ z. omega (arith, z)));
        }

  -- ---- a word of a place in hand is stored. The seat sees that word alone

  module _ (told : v.told ≡ []) (p j x : ℕ) (mine : contains v.hand.reserved p ≡ true) (low : 0 < j) (high : j < 4) where
    abbrev ws : List ℕ
    ws = slice_set s.words (record_word_at p j) x

    abbrev vs : List ℕ
    vs = slice_set v.words (record_word_at p j) x

    inside : p < places_of k.nodes
    inside = let g = place_given k s o id v me p mine in omega (arith, g, o.room)

    free : is_published (recs (shows k s.words)) p ≡ false
    free = f.hand.reserved p mine

    free_seen : is_published (recs (shows k v.words)) p ≡ false
    free_seen = false_by _ (λ had. true≢false (sym (there (recs (shows k v.words) p) refl had) ∙ free))
      where
        there : (z : Option Rec) → recs (shows k v.words) p ≡ z → at_record false (λ _. true) z ≡ true → is_published (recs (shows k s.words)) p ≡ true
        there None e h = absurd (true≢false (sym h))
        there (Some r) e h = ap (at_record false (λ _. true)) (f.seen.records p r e)

    filled_now : shows k (slice_set s.words (record_word_at p j) x) ≡ shows k s.words
    filled_now = fill_world k.nodes k.rows s.words p j x inside low high free

    filled_seen : shows k (slice_set v.words (record_word_at p j) x) ≡ shows k v.words
    filled_seen = fill_world k.nodes k.rows v.words p j x inside low high free_seen

    at_other : (ws : List ℕ) (i : ℕ) → (i ≡ record_word_at p j → ⊥) → slice_index (slice_set ws (record_word_at p j) x) i ≡ slice_index ws i
    at_other ws i ne = get_or-set_other ws (record_word_at p j) i x 0 ne

    filled_well : IsLawfulWords k.nodes k.rows (plan_of k) (slice_set s.words (record_word_at p j) x)
    filled_well = well_same k.nodes k.rows (plan_of k) (slice_set s.words (record_word_at p j) x) s.words filled_now
        (λ q there i few. at_other s.words (record_word_at q i) (λ z. (let eq : q ≡ p = omega (arith, z, few, high) in true≢false (sym there ∙ (ap (is_published (recs (shows k s.words))) eq ∙ free)))))
        (λ q. at_other s.words (state_word_at q) (λ z. omega (arith, z, high))) (omega (arith, at_other s.words 1 (λ z. omega (arith, z)))) o.well

    -- what is in hand is as it was seen, with the word
    same_in : (i : ℕ) → slice_index v.words i ≡ slice_index s.words i → slice_index (slice_set v.words (record_word_at p j) x) i ≡ slice_index (slice_set s.words (record_word_at p j) x) i
    same_in i e = ⊎_elim
        (λ eq. ap (λ z. slice_index (slice_set v.words (record_word_at p j) x) z) eq ∙ (get_or-set_same v.words (record_word_at p j) x 0 (omega (arith, f.wide rights, inside, high))
        ∙ sym (ap (λ z. slice_index (slice_set s.words (record_word_at p j) x) z) eq ∙ get_or-set_same s.words (record_word_at p j) x 0 (omega (arith, o.wide, inside, high)))))
        (λ ne. at_other v.words i ne ∙ (e ∙ sym (at_other s.words i ne))) (cases_eq i (record_word_at p j))

    pub fills : Move k s o id v (slice_set s.words (record_word_at p j) x) (slice_set v.words (record_word_at p j) x) v.hand v.wasted
    fills = record {
      long = length-set s.words (record_word_at p j) x;
      well = filled_well;
      grows = subst (Grows (shows k s.words)) (sym filled_now) (grows_refl (shows k s.words));
      sees = record {
        seen = subst (λ w. Grows w (shows k ws)) (sym filled_seen) (subst (Grows (shows k v.words)) (sym filled_now) f.seen);
        places_up = (let u = f.places_up in omega (arith, u, at_other v.words 0 (λ z. omega (arith, z)), at_other s.words 0 (λ z. omega (arith, z))));
        names_up = (let u = f.names_up in omega (arith, u, at_other v.words 1 (λ z. omega (arith, z)), at_other s.words 1 (λ z. omega (arith, z))));
        exact = λ all. ap (λ l. slice_set l (record_word_at p j) x) (f.exact all told);
        wide = length-set v.words (record_word_at p j) x ∙ (f.wide rights ∙ sym (length-set s.words (record_word_at p j) x ∙ o.wide));
        records = λ q i had few. same_in (record_word_at q i) (f.records told q i had few);
        states = λ q had. same_in (state_word_at q) (f.states told q had);
        row_words = λ i q had few. same_in (row_word_at k.nodes i q) (f.row_words told i q had few);
        seen_full = λ any. (let l = f.seen_full told any in omega (arith, l, at_other v.words 0 (λ z. omega (arith, z))));
      };
      places_up = omega (arith, at_other s.words 0 (λ z. omega (arith, z)));
      names_up = omega (arith, at_other s.words 1 (λ z. omega (arith, z)));
      given = o.given;
      room = o.room;
      drawn = omega (arith, at_other s.words 0 (λ z. omega (arith, z)));
      full = λ any. (let l = full_if any in omega (arith, l, at_other s.words 0 (λ z. omega (arith, z))));
      short = λ more. absurd (omega (arith, more));
      most = f.wasted_most;
      few = λ past. (let all = o.few (omega (arith, past, at_other s.words 1 (λ z. omega (arith, z)))) in omega (arith, all, at_other s.words 1 (λ z. omega (arith, z)), same_draw));
      calm = λ one. (calm_if one, (let c = (o.calm one).1 in omega (arith, c, at_other s.words 1 (λ z. omega (arith, z)))));
      hand = subst (λ w. IsLawfulHand w v.hand) (sym filled_now) f.hand;
      works = f.works;
      mine = subst (λ w. KnowsRows w v.numbers v.hand) (sym filled_now) f.mine;
      vain = f.vain;
      vain_rows = o.vain_rows;
      tells = tells_same (subst (Grows (shows k s.words)) (sym filled_now) (grows_refl (shows k s.words))) o.told v.wasted v.wasted v.hand.vain v.hand.vain refl;
      hands = λ i u ne at'. subst (λ w. IsLawfulHand w u.hand) (sym filled_now) (o.seats i u at').hand;
      others = λ i u ne at'. subst (λ w. KnowsRows w u.numbers u.hand) (sym filled_now) (o.seats i u at').mine;
      claims = λ q. ap (λ w. one_if (holds_claim v.hand q) + one_if (is_claimed_at w q)) (sym filled_now);
      places = λ q. ap (λ w. one_if (contains v.hand.reserved q) + one_if (is_published (recs w) q) + one_if (ltb q (fixed_places + o.given))) filled_now;
      names = λ i. omega (arith, ap (λ w. one_if (is_ended_at (row_at w) (suc i))) filled_now, ap (λ n. one_if (ltb i (Rattle.std.specs.Prelude.min n k.rows))) (at_other s.words 1 (λ z. omega (arith, z))));
      lost = o.lost;
      balance = same_balance k s o id v me (slice_set s.words (record_word_at p j) x) (sight_after v (slice_set v.words (record_word_at p j) x) v.hand v.wasted) filled_now refl refl refl refl;
      records = λ q i few inside' none unpublished. sym (at_other s.words (record_word_at q i) (λ z. (let eq : q ≡ p = omega (arith, z, few, high) in true≢false (sym mine ∙ (ap (contains v.hand.reserved) (sym eq) ∙ none)))));
      states = λ q inside' none claimed. sym (at_other s.words (state_word_at q) (λ z. omega (arith, z, high)));
      row_words = λ i q none open_yet drawn few. sym (at_other s.words (row_word_at k.nodes i q) (λ z. omega (arith, z, inside, high)));
    }
      where
        same_draw : may_draw k.rows (sight_after v (slice_set v.words (record_word_at p j) x) v.hand v.wasted) ≡ may_draw k.rows v
        same_draw = ap₂ (λ (ts : List (ℕ × ℕ × List ℕ)) (n : ℕ). cond {A = ℕ} (is_none_told ts && ltb n k.rows) (length v.numbers) 0) (sym told) (at_other v.words 1 (λ z. omega (arith, z)))
