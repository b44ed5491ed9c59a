-- The steps on states keep the rule.
use Rattle.std.proofs.Common.{◌≡◌, ◌≢◌, ℕ, suc, ◌+◌, ◌<◌, ◌≤◌, List, [], length, refl, sym, ap, ap₂, ◌∙◌, arith, subst, true, false, ◌||◌, Option, Some, None, ltb, ◌⊎◌, inl, inr}
use Rattle.std.specs.Prelude.{slice_index, slice_set, option_map, min}
use Rattle.std.proofs.lemmas.Bool.{true≢false, cases_eq, or_right, eq-eqb, ne_eqb}
use Rattle.std.proofs.lemmas.List.{get_or-set_other, length-set}
use mathlib.Core.Logic.{⊎_elim}
use mathlib.Core.Option.{some}
use lib.ListN.{get_elem?}
use Rattle.lazy_rec.specs.declared.places.Ref.{Ref}
use Rattle.lazy_rec.specs.declared.records.Rec.{Rec}
use Rattle.lazy_rec.specs.declared.states.SuspState.{SuspState}
use Rattle.lazy_rec.specs.declared.states.SuspState.TheVariants.{Unforced, Claimed, Done}
use Rattle.lazy_rec.specs.Named.{is_pending, at_record}
use Rattle.lazy_rec.specs.Tests.{is_some_and}
use Rattle.lazy_rec.specs.States.{kept, given_up, is_claimed, state_word, state_in_range}
use Rattle.heap_store.specs.declared.nodes.Node.{Node}
use Rattle.heap_store.specs.World.{World, recs, node_at, state_at, show, is_claimed_at, is_done, is_taken}
use Rattle.heap_store.specs.Rows.{row_at, is_ended_at}
use Rattle.heap_store.specs.Growth.{Grows}
use Rattle.heap_store.specs.Lawful.{IsLawful}
use Rattle.heap_store.specs.Hand.{Hand, IsLawfulHand, contains, claim_places, holds_claim, without_claim, hand_won, has_no_next}
use Rattle.heap_store.specs.Shared.{one_if, added}
use Rattle.heap_store.specs.Budget.{IsBalanced, is_funded}
use Rattle.lazy_rec.proofs.TestLaws.{implies_to}
use Rattle.heap_store.proofs.ShowLaws.{one_value, state_grows, state-same, recs-show}
use Rattle.heap_store.proofs.LawfulLaws.{lawful_names, lawful_state, done_there}
use Rattle.heap_store.proofs.RecordLaws.{done_well_up}
use Rattle.heap_store.proofs.BudgetSteps.{done_now}
use Rattle.heap_store.proofs.PlainLists.{contains-without_other, contains-without_same}
use Rattle.heap_store.proofs.PlainSeen.{claimed_pending, claimed-other, claimed-same, unforced_no_next, unbuilt_no_next}
use Rattle.heap_store.proofs.PlainSteps.{claimed_fits, state_small}
use Rattle.word_world.specs.Words.{state_word_at, record_word_at, row_word_at, places_of, world_of, node_of_words, state_of_word}
use Rattle.word_world.proofs.Tables.{length-tabulate}
use Rattle.word_world.proofs.Worlds.{node_state}
use Rattle.word_world.proofs.RowWords.{world_inside}
use Rattle.word_world.proofs.WordSteps.{changed_world, changed_lawful}
use Rattle.word_world.proofs.StateHands.{hand_apart, hand_without, hand_more}
use Rattle.word_store.specs.declared.sight.Sight.{Sight}
use Rattle.word_store.specs.declared.sight.Size.{Size}
use Rattle.word_store.specs.Rule.{IsKept, IsSeat, shows, seen_by, running, works_on_names, plan_of}
use Rattle.word_store.specs.Sound.{IsSound}
use Rattle.word_store.specs.Claims.{MaySpend}
use Rattle.word_store.specs.Plays.{sight_after, spent_hand}
use Rattle.word_store.proofs.Sums.{zero_false, pos_true, false_by, term_le}
use Rattle.word_store.proofs.Moves.{St, Move, sees_now}
use Rattle.word_store.proofs.Told.{tells_same}
use Rattle.word_store.proofs.Seats.{others_claim}
use Rattle.word_store.proofs.Balances.{won_balance, completed_balance, given_up_balance}
use Rattle.word_store.proofs.PlaceSteps.{full_if, calm_if, few_if}

module _ (k : Size) (s : St) (o : IsKept k s) (id : ℕ) (v : Sight) (me : get_elem? s.views id ≡ some v) (rights : 0 < length v.numbers) where
  f : IsSeat k s.words v
  f = o.seats id v me

  sizes : (v.nodes ≡ k.nodes) × (v.rows ≡ k.rows) × (v.callers ≡ k.callers) × (v.plan ≡ (plan_of k))
  sizes = (o.seats id v me).size rights

  pub seen_grows : Grows (seen_by v) (shows k s.words)
  seen_grows = subst (λ y. Grows y (shows k s.words)) (ap₂ (λ c d. world_of c d v.words) (sym sizes.0) (sym sizes.1)) f.seen

  -- nobody holds what isn't claimed
  unheld : (p : ℕ) → is_claimed_at (shows k s.words) p ≡ false → (j : ℕ) (u : Sight) → get_elem? s.views j ≡ some u → holds_claim u.hand p ≡ false
  unheld p free j u at = zero_false _ (omega (arith, o.claims p, ap one_if free, term_le (λ (x : Sight). one_if (holds_claim x.hand p)) s.views j u at))

  -- what a place shows, where its record was seen
  pub shown_here : (p : ℕ) (r : Rec) → recs (seen_by v) p ≡ Some r → (st : SuspState) × (node_at (shows k s.words) p ≡ Some (record { rec = r; state = st })) × (st ≡ state_of_word (slice_index s.words (state_word_at p))) × (p < places_of k.nodes)
  shown_here p r e = by (node_at (shows k s.words) p) refl (seen_grows.records p r e)
    where
      inside : p < places_of k.nodes
      inside = omega (arith, world_inside v.nodes v.rows v.words p r e, sizes.0)

      by : (n : Option Node) → node_at (shows k s.words) p ≡ n → option_map (λ (m : Node). m.rec) n ≡ Some r → (st : SuspState) × (node_at (shows k s.words) p ≡ Some (record { rec = r; state = st })) × (st ≡ state_of_word (slice_index s.words (state_word_at p))) × (p < places_of k.nodes)
      by None h g = cc
      by (Some n) h g = (
        n.state,
        h ∙ ap (λ x. Some (record { rec = x; state = n.state })) (one_value n.rec r g),
        node_state k.nodes k.rows s.words p n inside h,
        inside,
      )

  -- a place shows another state
  module _ (p : ℕ) (r : Rec) (old new : SuspState) (h : Hand) (here : node_at (shows k s.words) p ≡ Some (record { rec = r; state = old })) (inside : p < places_of k.nodes) (range : state_in_range new ≡ true) where
    abbrev ws : List ℕ
    ws = slice_set s.words (state_word_at p) (state_word new)

    abbrev w : World
    w = shows k s.words

    in_list : p < length (shows k s.words).nodes
    in_list = omega (arith, inside, length-tabulate (node_of_words s.words) 0 (places_of k.nodes))

    pub now : shows k (slice_set s.words (state_word_at p) (state_word new)) ≡ show (shows k s.words) p r new
    now = changed_world k.nodes k.rows (plan_of k) s.words o.wide o.well p r old new inside here range

    other : (i : ℕ) → (i ≡ state_word_at p → ⊥) → slice_index (slice_set s.words (state_word_at p) (state_word new)) i ≡ slice_index s.words i
    other i ne = get_or-set_other s.words (state_word_at p) i (state_word new) 0 ne

    was : is_claimed_at (shows k s.words) p ≡ is_claimed old
    was = ap (λ z. is_some_and (λ (n : Node). is_claimed n.state) z) here

    pub restates : kept old ≡ None → given_up old ≤ given_up new → is_funded (shows k s.words) p r ≡ true → IsLawful (show (shows k s.words) p r new)
        → IsLawfulHand (show (shows k s.words) p r new) h → h.reserved ≡ v.hand.reserved → h.names ≡ v.hand.names → h.open_rows ≡ v.hand.open_rows → h.mine ≡ v.hand.mine → h.vain ≡ v.hand.vain
        → ((j : ℕ) (u : Sight) → j ≢ id → get_elem? s.views j ≡ some u → IsLawfulHand (show (shows k s.words) p r new) u.hand)
        → ((q : ℕ) → q ≢ p → holds_claim h q ≡ holds_claim v.hand q) → one_if (holds_claim h p) + one_if (is_claimed old) ≡ one_if (holds_claim v.hand p) + one_if (is_claimed new) → (holds_claim v.hand p ≡ true) ⊎ (is_claimed old ≡ false)
        → IsBalanced (running k (slice_set s.words (state_word_at p) (state_word new)) (slice_set s.views id (sight_after v (slice_set s.words (state_word_at p) (state_word new)) h v.wasted))) o.lost
        → Move k s o id v (slice_set s.words (state_word_at p) (state_word new)) (slice_set s.words (state_word_at p) (state_word new)) h v.wasted
    restates open_yet less paid lawful hand reserved names open_rows mine vain hands elsewhere counts free balance =
        let grows = state_grows w p r new in_list old here open_yet less in
        let full = full_if k s o id v me rights in
        let back : (q : ℕ) → recs (shows k ws) q ≡ recs w q = λ q. ap (λ y. recs y q) now ∙ recs-show w p r new in_list old here q in
        let row_same : (i : ℕ) → row_at (shows k ws) i ≡ row_at w i = λ i. ap (λ y. row_at y i) now in
        record {
          long = length-set s.words (state_word_at p) (state_word new);
          well = changed_lawful k.nodes k.rows (plan_of k) s.words o.wide o.well p r old new inside here range grows paid lawful;
          grows = subst (Grows w) (sym now) grows;
          sees = sees_now k v ws h v.wasted (λ any. (let l = full any in omega (arith, l, other 0 (λ z. omega (arith, z)))));
          places_up = omega (arith, other 0 (λ z. omega (arith, z)));
          names_up = omega (arith, other 1 (λ z. omega (arith, z)));
          given = o.given;
          room = o.room;
          drawn = omega (arith, other 0 (λ z. omega (arith, z)));
          full = λ any. (let l = full any in omega (arith, l, other 0 (λ z. omega (arith, z))));
          short = λ more. absurd (omega (arith, more));
          most = f.wasted_most;
          few = few_if k s o id v me rights ws h v.wasted (other 1 (λ z. omega (arith, z)));
          calm = λ one. (calm_if k s o id v me rights one, (let c = (o.calm one).1 in omega (arith, c, other 1 (λ z. omega (arith, z)))));
          hand = subst (λ y. IsLawfulHand y h) (sym now) hand;
          works = ap₂ (λ ns os. works_on_names (record h { names = ns; open_rows = os })) names open_rows ∙ f.works;
          mine = λ i t e c. ap (λ xs. contains xs i) mine ∙ f.mine i t (sym (row_same i) ∙ e) c;
          vain = λ some. f.vain (ap Rattle.std.specs.Prelude.is_some (sym vain) ∙ some);
          vain_rows = o.vain_rows;
          tells = tells_same (subst (Grows w) (sym now) grows) o.told v.wasted v.wasted v.hand.vain h.vain (ap (λ z. v.wasted + added z) (sym vain));
          hands = λ j u ne at. subst (λ y. IsLawfulHand y u.hand) (sym now) (hands j u ne at);
          others = λ j u ne at i t e c. (o.seats j u at).mine i t (sym (row_same i) ∙ e) c;
          claims = λ q. ⊎_elim
              (λ eq. (let c : is_claimed_at (shows k ws) p ≡ is_claimed new = ap (λ y. is_claimed_at y p) now ∙ claimed-same w p r old new in_list here in
              subst (λ z. one_if (holds_claim h z) + one_if (is_claimed_at w z) ≡ one_if (holds_claim v.hand z) + one_if (is_claimed_at (shows k ws) z)) (sym eq) (omega (arith, counts, ap one_if c, ap one_if was))))
              (λ ne. (let c : is_claimed_at (shows k ws) q ≡ is_claimed_at w q = ap (λ y. is_claimed_at y q) now ∙ claimed-other w p r old new in_list here q ne in
              ap₂ (λ y z. one_if y + one_if z) (elsewhere q ne) (sym c)))
              (cases_eq q p);
          places = λ q. omega (arith, ap (λ xs. one_if (contains xs q)) reserved, ap one_if (ap (at_record false (λ _. true)) (back q)));
          names = λ i. omega (arith, ap (λ xs. one_if (contains xs (suc i))) names, ap (λ y. one_if (is_ended_at (row_at y) (suc i))) now, ap (λ n. one_if (ltb i (min n k.rows))) (other 1 (λ z. omega (arith, z))));
          lost = o.lost;
          balance = balance;
          records = λ q j low inside' none unpublished. sym (other (record_word_at q j) (λ z. omega (arith, z, low)));
          states = λ q inside' none claimed. sym (other (state_word_at q) (λ z. (let eq : q ≡ p = omega (arith, z) in ⊎_elim (λ ours. true≢false (sym ours ∙ (ap (holds_claim v.hand) (sym eq) ∙ none))) (λ unclaimed. true≢false (sym claimed ∙ (ap (is_claimed_at w) eq ∙ (was ∙ unclaimed)))) free)));
          row_words = λ i j none open_yet low few. sym (other (row_word_at k.nodes i j) (λ z. omega (arith, z, inside)));
        }

  -- a claim is won
  pub wins : (c : Ref) (r : Rec) (g : ℕ) → recs (seen_by v) c.0 ≡ Some r → node_at (shows k s.words) c.0 ≡ Some (record { rec = r; state = Unforced g }) → c.0 < places_of k.nodes → is_pending r ≡ true → is_funded (shows k s.words) c.0 r ≡ true
      → Move k s o id v (slice_set s.words (state_word_at c.0) (state_word (Claimed g))) (slice_set s.words (state_word_at c.0) (state_word (Claimed g))) (hand_won (recs (seen_by v)) v.hand c) v.wasted
  wins c r g seen here inside pending paid =
      let w0 = shows k s.words in
      let h : Hand = hand_won (recs (seen_by v)) v.hand c in
      let small : g < 65536 = state_small (Unforced g) (o.well.world.states c.0 (Unforced g) (ap (option_map (λ (n : Node). n.state)) here)) in
      let range = claimed_fits g small in
      let list = in_list c.0 r (Unforced g) (Claimed g) h here inside range in
      let now_is = now c.0 r (Unforced g) (Claimed g) h here inside range in
      let law = lawful_state w0 c.0 r (Unforced g) (Claimed g) list here o.well.world refl (omega arith) (inl refl) pending range (λ d e. cc) in
      let free : is_claimed_at w0 c.0 ≡ false = was c.0 r (Unforced g) (Claimed g) h here inside range in
      let mine = unheld c.0 free id v me in
      let ws' : List ℕ = slice_set s.words (state_word_at c.0) (state_word (Claimed g)) in
      restates c.0 r (Unforced g) (Claimed g) h here inside range refl (omega arith) paid law
      (hand_more w0 c.0 r (Unforced g) (Claimed g) list here (recs (seen_by v)) v.hand c refl f.hand mine refl (unforced_no_next w0 o.well.world c.0 r g here pending)) refl refl refl refl refl
      (λ j u ne at'. hand_apart w0 c.0 r (Unforced g) (Claimed g) list here u.hand (o.seats j u at').hand (unheld c.0 free j u at'))
      (λ q ne. ap (λ z. z || holds_claim v.hand q) (ne_eqb c.0 q (λ z. ne (sym z)))) (omega (arith, ap one_if mine, ap (λ z. one_if (z || holds_claim v.hand c.0)) (eq-eqb c.0 c.0 refl))) (inr refl)
      (won_balance k s o id v me ws' (sight_after v ws' h v.wasted) c.0 r (Unforced g) (Claimed g) now_is list here (seen_by v) seen g g refl refl c refl refl)

  -- a claim is spent
  module _ (told : v.told ≡ []) (sound : IsSound v) (p : ℕ) (new : SuspState) (mine : holds_claim v.hand p ≡ true) (may : MaySpend v p new) where
    spent_claims : (n : SuspState) → is_claimed n ≡ false → (spent_hand (recs (seen_by v)) v.hand p n).claims ≡ without_claim p v.hand.claims
    spent_claims (Unforced g) e = refl
    spent_claims (Claimed g) e = absurd (true≢false e)
    spent_claims (Done a b c) e = refl

    -- all but the claims, the credits and the allowance
    spent_rest : (P : List ℕ → List ℕ → List Rattle.heap_store.specs.declared.claims.OpenRow.OpenRow → List ℕ → Option Rattle.heap_store.specs.declared.claims.Full.Full → Type 0) → P v.hand.reserved v.hand.names v.hand.open_rows v.hand.mine v.hand.vain
        → (n : SuspState) → P (spent_hand (recs (seen_by v)) v.hand p n).reserved (spent_hand (recs (seen_by v)) v.hand p n).names (spent_hand (recs (seen_by v)) v.hand p n).open_rows (spent_hand (recs (seen_by v)) v.hand p n).mine (spent_hand (recs (seen_by v)) v.hand p n).vain
    spent_rest P x (Unforced g) = x
    spent_rest P x (Claimed g) = x
    spent_rest P x (Done a b c) = x

    claimed_here : is_claimed_at (shows k s.words) p ≡ true
    claimed_here = pos_true _ (omega (arith, o.claims p, ap one_if mine, term_le (λ (x : Sight). one_if (holds_claim x.hand p)) s.views id v me))

    abbrev Answer : Type 0
    Answer = Move k s o id v (slice_set s.words (state_word_at p) (state_word new)) (slice_set s.words (state_word_at p) (state_word new)) (spent_hand (recs (seen_by v)) v.hand p new) v.wasted

    balanced : (r : Rec) (g : ℕ) → recs (seen_by v) p ≡ Some r → node_at (shows k s.words) p ≡ Some (record { rec = r; state = Claimed g }) → p < places_of k.nodes → (n : SuspState) → n ≡ new
        → IsBalanced (running k (slice_set s.words (state_word_at p) (state_word new)) (slice_set s.views id (sight_after v (slice_set s.words (state_word_at p) (state_word new)) (spent_hand (recs (seen_by v)) v.hand p new) v.wasted))) o.lost
    balanced r g seen e inside (Claimed n) is = absurd (true≢false (ap is_claimed is ∙ may.free))
    balanced r g seen e inside (Unforced n) is =
        let h : Hand = spent_hand (recs (seen_by v)) v.hand p new in
        let list = in_list p r (Claimed g) new h e inside may.range in let now_is = now p r (Claimed g) new h e inside may.range in
        let ws' : List ℕ = slice_set s.words (state_word_at p) (state_word new) in
        given_up_balance k s o id v me ws' (sight_after v ws' h v.wasted) p r (Claimed g) new now_is list e (seen_by v) seen g refl mine n (sym is) (may.unbuilt (ap kept (sym is))) (may.places (ap kept (sym is)))
        (ap (spent_hand (recs (seen_by v)) v.hand p) (sym is))
    balanced r g seen e inside (Done place steps n) is =
        let h : Hand = spent_hand (recs (seen_by v)) v.hand p new in
        let list = in_list p r (Claimed g) new h e inside may.range in let now_is = now p r (Claimed g) new h e inside may.range in
        let ws' : List ℕ = slice_set s.words (state_word_at p) (state_word new) in
        completed_balance k s o id v me ws' (sight_after v ws' h v.wasted) p r (Claimed g) new now_is list e (seen_by v) seen g refl mine
        (done_now (shows k s.words) p r (Claimed g) new list e ∙ ap (λ z. is_some_and (λ d. true) (kept z)) (sym is))
        (ap (spent_hand (recs (seen_by v)) v.hand p) (sym is))

    stays : (n : SuspState) → n ≡ new → (r : Rec) → recs (shows k s.words) p ≡ Some r → (is_some_and (λ d. true) (kept n) || is_claimed n ≡ true) ⊎ (has_no_next (shows k s.words) p r ≡ true)
    stays (Done place steps g) e r own = inl refl
    stays (Claimed g) e r own = absurd (true≢false (ap is_claimed e ∙ may.free))
    stays (Unforced g) e r own = inr (unbuilt_no_next (shows k s.words) v.hand.claims p r f.hand.claims f.hand.marked (may.unbuilt (ap kept (sym e))) own)

    spent_from : (r : Rec) (g : ℕ) → node_at (shows k s.words) p ≡ Some (record { rec = r; state = Claimed g }) → Answer
    spent_from r g e =
        let w0 = shows k s.words in
        let h : Hand = spent_hand (recs (seen_by v)) v.hand p new in
        let own : recs w0 p ≡ Some r = ap (option_map (λ (n : Node). n.rec)) e in
        let inside : p < places_of k.nodes = omega (arith, world_inside v.nodes v.rows v.words p may.rec may.here, sizes.0) in
        let list = in_list p r (Claimed g) new h e inside may.range in
        let rec-is : may.rec ≡ r = one_value may.rec r (sym (seen_grows.records p may.rec may.here) ∙ own) in
        let seen : recs (seen_by v) p ≡ Some r = may.here ∙ ap Some rec-is in
        let shown : state_of_word (slice_index s.words (state_word_at p)) ≡ Claimed g = sym (node_state k.nodes k.rows s.words p (record { rec = r; state = Claimed g }) inside e) in
        let less : g ≤ given_up new = omega (arith, may.more, ap (λ n. given_up (state_of_word n)) (f.states told p mine), ap given_up shown) in
        let pending = claimed_pending w0 o.well.world p claimed_here r own in
        let law = lawful_state w0 p r (Claimed g) new list e o.well.world refl less (stays new refl r own) pending may.range
        (λ d k'. done_well_up (seen_by v) w0 (lawful_names sound.well.world) seen_grows (done_there sound.well.world) p r d seen (may.done d k' r seen)) in
        let paid : is_funded w0 p r ≡ true = implies_to (is_taken w0 p) _ (implies_to (is_pending r) _ (o.well.funded.taken p r own) pending) (or_right (is_done w0 p) _ claimed_here) in
        let rest = spent_rest (λ a b c d e'. (a ≡ v.hand.reserved) × (b ≡ v.hand.names) × (c ≡ v.hand.open_rows) × (d ≡ v.hand.mine) × (e' ≡ v.hand.vain)) (refl, refl, refl, refl, refl) new in
        let cs = spent_claims new may.free in
        restates p r (Claimed g) new h e inside may.range refl less paid law
        (hand_without w0 p r (Claimed g) new list e v.hand h cs rest.0 rest.1 f.hand) rest.0 rest.1 rest.2 rest.3 rest.4
        (λ j u ne at'. hand_apart w0 p r (Claimed g) new list e u.hand (o.seats j u at').hand (false_by _ (λ theirs. true≢false (sym mine ∙ (others_claim k s o id v me j u ne at' p theirs).0))))
        (λ q ne. ap (λ c. contains (claim_places c) q) cs ∙ contains-without_other p v.hand.claims q ne)
        (omega (arith, ap one_if (ap (λ c. contains (claim_places c) p) cs ∙ contains-without_same p v.hand.claims), ap one_if mine, ap one_if may.free)) (inl mine)
        (balanced r g seen e inside new refl)

    pub spends : Answer
    spends = by (node_at (shows k s.words) p) refl claimed_here
      where
        by : (n : Option Node) → node_at (shows k s.words) p ≡ n → is_some_and (λ (m : Node). is_claimed m.state) n ≡ true → Answer
        by None e c = absurd (true≢false (sym c))
        by (Some n) e c = with_state n.rec n.state e c
          where
            with_state : (r : Rec) (st : SuspState) → node_at (shows k s.words) p ≡ Some (record { rec = r; state = st }) → is_claimed st ≡ true → Answer
            with_state r (Unforced g) h is = absurd (true≢false (sym is))
            with_state r (Claimed g) h is = spent_from r g h
            with_state r (Done a b g) h is = absurd (true≢false (sym is))

    pub spent_state : state_at (shows k (slice_set s.words (state_word_at p) (state_word new))) p ≡ Some new
    spent_state =
        let t = shown_here p may.rec may.here in
        let list = in_list p may.rec t.0 new v.hand t.1 t.3 may.range in
        ap (λ y. state_at y p) (now p may.rec t.0 new v.hand t.1 t.3 may.range) ∙ state-same (shows k s.words) p may.rec new list
