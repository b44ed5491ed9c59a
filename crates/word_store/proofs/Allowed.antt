-- What each kind of step asks of the table.
use Rattle.std.proofs.Common.{◌≡◌, ◌≢◌, ℕ, zero, suc, ◌+◌, ◌%◌, ◌^◌, ◌<◌, ◌≤◌, List, [], ◌∷◌, length, refl, sym, ap, ap₂, ◌∙◌, arith, subst, true, false, Option, Some, None, bit_or}
use Rattle.std.specs.Prelude.{slice_index, slice_set, option_map, map}
use Rattle.std.proofs.lemmas.Bool.{true≢false, cases_lt}
use Rattle.std.proofs.lemmas.List.{set-get_or, get_or-set_same}
use mathlib.Core.Logic.{⊎_elim}
use mathlib.Core.Option.{none, some, some-ne-none}
use lib.ListN.{get_elem?}
use Rattle.atomic_table.specs.Table.{step, Act, keeps, Allows, Valid, stepped, carried_after}
use Rattle.lazy_rec.specs.declared.places.Ref.{Ref}
use Rattle.lazy_rec.specs.declared.records.Rec.{Rec}
use Rattle.lazy_rec.specs.declared.states.SuspState.{SuspState}
use Rattle.lazy_rec.specs.declared.states.SuspState.TheVariants.{Unforced, Claimed, Done}
use Rattle.lazy_rec.specs.Named.{is_pending}
use Rattle.lazy_rec.specs.Packed.{words_of}
use Rattle.lazy_rec.specs.Shown.{shown}
use Rattle.lazy_rec.proofs.Shown.{shown-words_of}
use Rattle.lazy_rec.specs.States.{state_word, state_in_range, is_unforced}
use Rattle.heap_store.specs.declared.nodes.Node.{Node}
use Rattle.heap_store.specs.declared.claims.Full.{Full}
use Rattle.heap_store.specs.World.{World, recs, node_at, state_at, holds}
use Rattle.heap_store.specs.Rows.{words_at, word_at, store_word}
use Rattle.heap_store.specs.RowCalls.{MayStore}
use Rattle.heap_store.specs.Hand.{Hand, IsLawfulHand, KeepsWords, contains, holds_claim, hand_reserved, hand_refused, hand_won, hand_named}
use Rattle.heap_store.specs.Budget.{is_funded, is_funded_at, are_discharged, all_discharged, discharged}
use Rattle.lazy_rec.specs.Units.{units, same_unit}
use Rattle.std.specs.Set.{is_member}
use Rattle.heap_store.specs.View.{Fits}
use Rattle.heap_store.proofs.NameLaws.{NamesWell}
use Rattle.heap_store.proofs.GrowthLaws.{grows_trans, at_true}
use Rattle.heap_store.proofs.GainLaws.{discharged_kept}
use Rattle.heap_store.proofs.LawfulLaws.{lawful_names}
use Rattle.heap_store.proofs.OpenLaws.{marked_open}
use Rattle.heap_store.proofs.PlainSteps.{state_small}
use Rattle.heap_store.proofs.ShowLaws.{one_value}
use Rattle.word_world.specs.Words.{state_word_at, record_word_at, row_word_at, places_of, world_of, node_of_words, state_of_word, row_words}
use Rattle.word_world.proofs.Tables.{length-tabulate, tabulate-at}
use Rattle.word_world.proofs.Worlds.{claim_word, other_word, word_state, row_same}
use Rattle.word_store.specs.declared.sight.Sight.{Sight}
use Rattle.word_store.specs.declared.sight.Size.{Size}
use Rattle.word_store.specs.Rule.{IsKept, IsSeat, shows, seen_by, plan_of}
use Rattle.word_store.specs.Sound.{IsSound}
use Rattle.word_store.specs.Views.{view_with}
use Rattle.word_store.specs.Claims.{MaySpend}
use Rattle.word_store.specs.Plays.{Sat, Goes, Looked, Noted, Drew, Filled, Published, Tried, Spent, DrewName, StoredWord, sight_after, put_hand, spent_hand, row_hand, vain_hand}
use Rattle.word_store.proofs.Moves.{St, Move, board, low_drawn, low_names}
use Rattle.word_store.proofs.Seats.{moves, name_open, place_given, published_given}
use Rattle.word_store.proofs.Soundness.{sound_of}
use Rattle.word_store.proofs.PlaceSteps.{looks, draws, draws_vain, fills}
use Rattle.word_store.proofs.PlaceSteps as places
use Rattle.word_store.proofs.PutStep.{puts, put_there}
use Rattle.word_store.proofs.PutStep as put
use Rattle.word_store.proofs.ClaimSteps.{shown_here, wins, spends, spent_state}
use Rattle.word_store.proofs.ClaimSteps as claims
use Rattle.word_store.proofs.NameSteps.{names_drawn, names_past}
use Rattle.word_store.proofs.NameSteps as names
use Rattle.word_store.proofs.RowStep.{stores, stored_word, stored_words}

pub set_here : (l : List Sight) (i : ℕ) (v w : Sight) → get_elem? l i ≡ some v → get_elem? (slice_set l i w) i ≡ some w
set_here [] i v w e = absurd (some-ne-none v (sym e))
set_here (x ∷ xs) zero v w e = refl
set_here (x ∷ xs) (suc i) v w e = set_here xs i v w e

-- ---- what any step tells

module _ (k : Size) (s : St) (o : IsKept k s) (id : ℕ) (v : Sight) (me : get_elem? s.views id ≡ some v) (rights : 0 < length v.numbers) (told : v.told ≡ []) where
  f : IsSeat k s.words v
  f = o.seats id v me

  sizes : (v.nodes ≡ k.nodes) × (v.rows ≡ k.rows) × (v.callers ≡ k.callers) × (v.plan ≡ (plan_of k))
  sizes = (o.seats id v me).size rights

  pub world_is : (ws : List ℕ) → world_of v.nodes v.rows ws ≡ shows k ws
  world_is ws = ap₂ (λ a b. world_of a b ws) sizes.0 sizes.1

  pub exact_is : length v.numbers ≡ v.callers → v.words ≡ s.words
  exact_is all = f.exact (all ∙ sizes.2) told

  pub exact_one : length v.numbers ≡ 1 → k.callers ≡ 1 → v.words ≡ s.words
  exact_one one callers = f.exact (one ∙ sym callers) told

  pub goes : (i y : ℕ) (h : Hand) (n : ℕ) (c : List (ℕ × ℕ)) → Move k s o id v (slice_set s.words i y) (slice_set s.words i y) h n → Goes (slice_set v.words i y) (v, c) (sight_after v (slice_set s.words i y) h n, c)
  goes i y h n c m =
      let ws : List ℕ = slice_set s.words i y in let w : Sight = sight_after v ws h n in
      record {
        is = refl;
        slots = refl;
        grows = rw (world_is v.words, world_is ws) (grows_trans f.seen m.grows);
        names_up = (let a = f.names_up in let b = m.names_up in omega (arith, a, b));
        sound = sound_of k (board s ws id w) (moves k s o id v me rights ws ws h n m) id w (set_here s.views id v w me) rights refl refl;
        exact = λ all. ap (λ l. slice_set l i y) (sym (exact_is all));
      }

  -- a row of a name in hand is as it was seen
  row_seen : (m : ℕ) → contains v.hand.names m ≡ true → words_at (shows k s.words) m ≡ words_at (seen_by v) m
  row_seen zero had = refl
  row_seen (suc m) had =
      let inside : m < k.rows = (name_open k s o id v me m had).2 in
      tabulate-at (row_words k.nodes s.words) 0 k.rows m [] inside ∙ (row_same k.nodes s.words v.words (0 + m) (λ q low. (ap (λ z. slice_index s.words (row_word_at k.nodes z q)) {x = 0 + m} {y = m} (omega arith) ∙ (sym (f.row_words told m q had low) ∙ ap (λ z. slice_index v.words (row_word_at k.nodes z q)) {x = m} {y = 0 + m} (omega arith))))
      ∙ (ap (λ n. row_words n v.words (0 + m)) (sym sizes.0) ∙ sym (tabulate-at (row_words v.nodes v.words) 0 v.rows m [] (omega (arith, inside, sizes.1)))))

  -- where the rows stay, those of the names in hand do
  pub kept : (ws : List ℕ) → (shows k ws).rows ≡ (shows k s.words).rows → KeepsWords v.hand (seen_by v) (world_of v.nodes v.rows ws)
  kept ws same m had = ap (λ w. words_at w m) (world_is ws) ∙ (ap (λ rs. words_at (record { nodes = (shows k ws).nodes; rows = rs }) m) same ∙ (nodes_away m ∙ row_seen m had))
    where
      nodes_away : (m : ℕ) → words_at (record { nodes = (shows k ws).nodes; rows = (shows k s.words).rows }) m ≡ words_at (shows k s.words) m
      nodes_away zero = refl
      nodes_away (suc m) = refl

-- ---- loads

-- a load with which only parts of the hand change that no count knows
module _ (k : Size) (s : St) (o : IsKept k s) (id : ℕ) (v : Sight) (me : get_elem? s.views id ≡ some v) (rights : 0 < length v.numbers) (told : v.told ≡ []) (h : Hand) (i : ℕ) (c : List (ℕ × ℕ))
    (m : Move k s o id v s.words s.words h v.wasted) where
  pub loaded : Move k s o id v (slice_set s.words i (slice_index s.words i)) (slice_set s.words i (slice_index s.words i)) h v.wasted
  loaded = subst (λ l. Move k s o id v l l h v.wasted) (sym (set-get_or s.words i 0)) m

  pub loaded_goes : Goes v.words (v, c) (sight_after v (slice_set s.words i (slice_index s.words i)) h v.wasted, c)
  loaded_goes =
      let g = goes k s o id v me rights told i (slice_index s.words i) h v.wasted c loaded in
      record { is = refl; slots = refl; grows = g.grows; names_up = g.names_up; sound = g.sound; exact = λ all. set-get_or s.words i 0 ∙ sym (exact_is k s o id v me rights told all) }

  pub loaded_kept : KeepsWords v.hand (seen_by v) (world_of v.nodes v.rows (slice_set s.words i (slice_index s.words i)))
  loaded_kept = kept k s o id v me rights told (slice_set s.words i (slice_index s.words i)) (ap (λ ws. (shows k ws).rows) (set-get_or s.words i 0))

pub look_allowed : (k : Size) (n id : ℕ) (m : Sat) (i : ℕ) → 0 < length m.0.numbers → m.0.told ≡ [] → Allows (IsKept k) n id m i (λ x. x) (Looked (step n i 0 0 none) m)
look_allowed k n id m i rights told s o homes me _ =
    let v = m.0 in let x : ℕ = slice_index s.words i in let ws : List ℕ = slice_set s.words i x in let f = o.seats id v me in
    let move = looks k s o id v me rights v.hand refl refl refl refl refl f.hand f.works refl refl in (
      sight_after v ws v.hand v.wasted,
      keeps,
      tt,
      moves k s o id v me rights ws ws v.hand v.wasted (loaded k s o id v me rights told v.hand i m.1 move),
      record {
        goes = loaded_goes k s o id v me rights told v.hand i m.1 move;
        kept = loaded_kept k s o id v me rights told v.hand i m.1 move;
        hand = refl;
        found = ap (λ l. slice_index l i) (sym (set-get_or s.words i 0));
        held = λ p had. ap (λ l. slice_index l (state_word_at p)) (set-get_or s.words i 0) ∙ sym (f.states told p had);
      },
    )

pub note_allowed : (k : Size) (n id : ℕ) (m : Sat) (i : ℕ) → 0 < length m.0.numbers → m.0.told ≡ [] → Allows (IsKept k) n id m i (λ x. x) (Noted (step n i 0 0 none) m)
note_allowed k n id m i rights told s o homes me _ =
    let v = m.0 in let x : ℕ = slice_index s.words i in let ws : List ℕ = slice_set s.words i x in let f = o.seats id v me in
    let h : Hand = hand_refused v.hand in
    let lawful : IsLawfulHand (shows k s.words) h = record { claims = f.hand.claims; marked = f.hand.marked; claims_once = f.hand.claims_once; reserved = f.hand.reserved; reserved_once = f.hand.reserved_once; names = f.hand.names; names_once = f.hand.names_once } in
    let move = looks k s o id v me rights h refl refl refl refl refl lawful (marked_open v.hand.open_rows v.hand.names f.works) refl refl in (
      sight_after v ws h v.wasted,
      keeps,
      tt,
      moves k s o id v me rights ws ws h v.wasted (loaded k s o id v me rights told h i m.1 move),
      record { goes = loaded_goes k s o id v me rights told h i m.1 move; kept = loaded_kept k s o id v me rights told h i m.1 move; hand = refl },
    )

-- ---- places

pub draw_allowed : (k : Size) (n id : ℕ) (m : Sat) (a : ℕ) → length m.0.numbers ≡ 1 → m.0.told ≡ [] → 0 < a → slice_index m.0.words 0 + a ≤ m.0.nodes → a ≤ m.0.hand.allowance
    → Allows (IsKept k) n id m 0 (λ y. (y + a) % 2 ^ 64) (Drew (step n 0 a 0 none) m)
draw_allowed k n id m a one told positive asked fits s o homes me _ =
    let v = m.0 in let x : ℕ = slice_index s.words 0 in let ws : List ℕ = slice_set s.words 0 ((x + a) % 2 ^ 64) in let f = o.seats id v me in
    let rights : 0 < length v.numbers = omega (arith, one) in
    let sz = f.size rights in
    let low : x ≤ 260000000 = low_drawn k s o in
    let few : a ≤ 4000000 = omega (arith, asked, sz.0, o.small.0) in
    let e : (x + a) % 2 ^ 64 ≡ x + a = omega (arith, low, few) in
    let at : ws ≡ slice_set s.words 0 (x + a) = ap (slice_set s.words 0) e in
    let now = places.now k s o id v me rights x a ws refl at in
    let rows_same = kept k s o id v me rights told ws (ap (λ w. w.rows) now) in
    let asked' : slice_index v.words 0 + a ≤ k.nodes = omega (arith, asked, sz.0) in
    let before : length v.numbers ≡ v.callers → slice_index v.words 0 ≡ x = λ all. ap (λ (l : List ℕ). slice_index l 0) (exact_is k s o id v me rights told all) in
    let again : (h : Hand) (w : ℕ) → Goes (slice_set v.words 0 ((x + a) % 2 ^ 64)) m (sight_after v ws h w, m.1) → Goes (slice_set v.words 0 (x + a)) m (sight_after v ws h w, m.1) = λ h w g. subst (λ y. Goes (slice_set v.words 0 y) m (sight_after v ws h w, m.1)) e g in
    ⊎_elim
    (λ over. let move = draws_vain k s o id v me rights x a ws refl at told asked' fits positive over (exact_one k s o id v me rights told one) in
    let kept' = moves k s o id v me rights ws ws (vain_hand v.hand x a) a move in (
      sight_after v ws (vain_hand v.hand x a) a,
      keeps,
      tt,
      kept',
      record {
        goes = again (vain_hand v.hand x a) a (goes k s o id v me rights told 0 ((x + a) % 2 ^ 64) (vain_hand v.hand x a) a m.1 move);
        kept = rows_same;
        low = (let l = low_drawn k (board s ws id (sight_after v ws (vain_hand v.hand x a) a)) kept' in omega (arith, l, ap (λ (z : List ℕ). slice_index z 0) at, get_or-set_same s.words 0 (x + a) 0 (omega (arith, o.wide))));
        least = f.places_up;
        before = before;
        some = λ room. absurd (omega (arith, room, over, sz.0));
        none = λ _. (no_vain v.hand.vain refl, refl);
        unheld = λ room. absurd (omega (arith, room, over, sz.0));
        fresh = λ room. absurd (omega (arith, room, over, sz.0));
      },
    ))
    (λ room. let move = draws k s o id v me rights x a ws refl at room fits in
    let kept' = moves k s o id v me rights ws ws (hand_reserved v.hand (5 + x) a) v.wasted move in
    let given_most : o.given ≤ x = omega (arith, o.drawn) in (
      sight_after v ws (hand_reserved v.hand (5 + x) a) v.wasted,
      keeps,
      tt,
      kept',
      record {
        goes = again (hand_reserved v.hand (5 + x) a) v.wasted (goes k s o id v me rights told 0 ((x + a) % 2 ^ 64) (hand_reserved v.hand (5 + x) a) v.wasted m.1 move);
        kept = rows_same;
        low = omega (arith, room, o.small.0);
        least = f.places_up;
        before = before;
        some = λ _. refl;
        none = λ over. absurd (omega (arith, room, over, sz.0));
        unheld = λ _ p had. (let l = place_given k s o id v me p had in omega (arith, l, given_most));
        fresh = λ _ p y h. (let l = published_given k s o p (ap (Rattle.lazy_rec.specs.Named.at_record false (λ _. true)) (ap (λ w. recs w p) (sym (world_is k s o id v me rights told ws ∙ now)) ∙ h)) in omega (arith, l, given_most));
      },
    ))
    (cases_lt k.nodes (x + a))
  where
    no_vain : (z : Option Full) → m.0.hand.vain ≡ z → m.0.hand.vain ≡ None
    no_vain None e = e
    no_vain (Some full) e = (let f = o.seats id m.0 me in let w = f.vain (ap Rattle.std.specs.Prelude.is_some e) in let l = f.seen_full told w in let sz = f.size (omega (arith, one)) in absurd (omega (arith, l, asked, sz.0)))

pub fill_allowed : (k : Size) (n id : ℕ) (m : Sat) (i p j x : ℕ) → i ≡ record_word_at p j → 0 < length m.0.numbers → m.0.told ≡ [] → contains m.0.hand.reserved p ≡ true → 0 < j → j < 4 → Allows (IsKept k) n id m i (λ _. x) (λ _. Filled (step n i x 0 none) m x)
fill_allowed k n id m i p j x is rights told mine low high s o homes me _ =
    let v = m.0 in
    let at : slice_set s.words i x ≡ slice_set s.words (record_word_at p j) x = ap (λ z. slice_set s.words z x) is in
    let vat : slice_set v.words i x ≡ slice_set v.words (record_word_at p j) x = ap (λ z. slice_set v.words z x) is in (
      record v { words = slice_set v.words i x },
      keeps,
      tt,
      subst (λ ts. IsKept k (board s (slice_set s.words i x) id (record v { words = slice_set v.words i x; told = ts }))) (sym told)
          (subst (λ l. IsKept k (board s l id (sight_after v (slice_set v.words i x) v.hand v.wasted))) (sym at) (subst (λ l. IsKept k (board s (slice_set s.words (record_word_at p j) x) id (sight_after v l v.hand v.wasted))) (sym vat)
          (moves k s o id v me rights (slice_set s.words (record_word_at p j) x) (slice_set v.words (record_word_at p j) x) v.hand v.wasted (fills k s o id v me rights told p j x mine low high)))),
      record { is = refl; slots = refl },
    )

pub publish_allowed : (k : Size) (n id : ℕ) (m : Sat) (i p x : ℕ) (r : Rec) (caller refused : ℕ) (last : Full) (drawn named : ℕ) → i ≡ record_word_at p 0 → 0 < length m.0.numbers → m.0.told ≡ [] → IsSound m.0 → contains m.0.hand.reserved p ≡ true
    → ◌≡◌ {A = List ℕ} (x ∷ slice_index m.0.words (record_word_at p 1) ∷ slice_index m.0.words (record_word_at p 2) ∷ slice_index m.0.words (record_word_at p 3) ∷ []) (words_of r)
    → Fits (view_with m.0 caller refused last drawn named) p r → Allows (IsKept k) n id m i (λ _. x) (λ _. Published (step n i x 0 none) m x)
publish_allowed k n id m i p x r caller refused last drawn named is rights told sound mine words fits s o homes me _ =
    let v = m.0 in let ws : List ℕ = slice_set s.words i x in
    let h : Hand = put_hand v p r in
    let at : slice_set s.words (record_word_at p 0) x ≡ ws = ap (λ z. slice_set s.words z x) (sym is) in
    let move : Move k s o id v ws ws h v.wasted = subst (λ l. Move k s o id v l l h v.wasted) at (puts k s o id v me rights told sound caller refused last drawn named p x r mine words fits) in
    let now = put.now k s o id v me rights told sound caller refused last drawn named p x r mine words fits in
    let here : recs (world_of v.nodes v.rows ws) p ≡ Some r = ap (λ w. recs w p) (world_is k s o id v me rights told ws) ∙ (ap (λ l. recs (shows k l) p) (sym at) ∙ put_there k s o id v me rights told sound caller refused last drawn named p x r mine words fits) in (
      sight_after v ws h v.wasted,
      keeps,
      tt,
      moves k s o id v me rights ws ws h v.wasted move,
      record {
        goes = goes k s o id v me rights told i x h v.wasted m.1 move;
        kept = kept k s o id v me rights told ws (ap (λ l. (shows k l).rows) (sym at) ∙ ap (λ w. w.rows) now);
        hand = λ q y at' e range. (let same : q ≡ p = omega (arith, at', is) in
            let all : words_of y ≡ words_of r = sym e ∙ (ap (λ c. x ∷ slice_index v.words (record_word_at c 1) ∷ slice_index v.words (record_word_at c 2) ∷ slice_index v.words (record_word_at c 3) ∷ []) same ∙ words) in
            let y-is : y ≡ r = sym (shown-words_of y range) ∙ (ap shown all ∙ shown-words_of r fits.laws.range) in
            rw (same, y-is) (refl, here));
      },
    )

-- ---- claims

-- what was paid for stays so
funded_up : (a b : World) → NamesWell (recs a) → ((q : ℕ) (r : Rec) → recs a q ≡ Some r → recs b q ≡ Some r) → length a.nodes ≡ length b.nodes → (p : ℕ) (r : Rec) → is_funded a p r ≡ true → is_funded b p r ≡ true
funded_up a b names kept size p r h = go (units p r) h
  where
    go : (us : List (ℕ × ℕ)) → are_discharged a us ≡ true → are_discharged b us ≡ true
    go [] e = e
    go (u ∷ us) e = let k = Rattle.std.proofs.lemmas.Bool.and_parts (is_member same_unit (all_discharged a) u) _ e in
        Rattle.std.proofs.lemmas.Bool.and_from _ _ (ap (λ n. is_member same_unit (discharged (recs b) n) u) (sym size) ∙ discharged_kept (recs a) (recs b) names kept (length a.nodes) u k.0) (go us k.1)

module _ (k : Size) (n id : ℕ) (m : Sat) (i : ℕ) (c : Ref) (is : i ≡ state_word_at c.0) (rights : 0 < length m.0.numbers) (told : m.0.told ≡ []) (s : St) (o : IsKept k s) (me : get_elem? s.views id ≡ some m.0) where
  abbrev Answer : Type 0
  Answer = (w : Sight) × (a : Act ℕ) × Valid s.homes m.1 a × IsKept k (stepped s i (bit_or (slice_index s.words i) 1) id m.1 w a) × Tried (step n i 1 0 none) m (slice_index s.words i) (w, carried_after m.1 a)

  abbrev x : ℕ
  x = slice_index s.words i

  abbrev ws : List ℕ
  ws = slice_set s.words i (bit_or (slice_index s.words i) 1)

  before : length m.0.numbers ≡ m.0.callers → slice_index m.0.words i ≡ slice_index s.words i
  before all = ap (λ (l : List ℕ). slice_index l i) (exact_is k s o id m.0 me rights told all)

  -- what was found stays
  not_won : (r : Rec) (st : SuspState) → is_unforced st ≡ false → node_at (shows k s.words) c.0 ≡ Some (record { rec = r; state = st }) → st ≡ state_of_word (slice_index s.words i) → state_word (state_of_word (slice_index s.words i)) ≡ slice_index s.words i → state_in_range (state_of_word (slice_index s.words i)) ≡ true → Answer
  not_won r st u here is' proper range =
      let v = m.0 in let f = o.seats id v me in
      let free : is_unforced (state_of_word x) ≡ false = ap is_unforced (sym is') ∙ u in
      let same : bit_or x 1 ≡ x = other_word x free proper in
      let e : ws ≡ s.words = ap (slice_set s.words i) same ∙ set-get_or s.words i 0 in
      let move : Move k s o id v ws ws v.hand v.wasted = subst (λ l. Move k s o id v l l v.hand v.wasted) (sym e) (looks k s o id v me rights v.hand refl refl refl refl refl f.hand f.works refl refl) in
      let world : world_of v.nodes v.rows ws ≡ shows k s.words = world_is k s o id v me rights told ws ∙ ap (shows k) e in (
        sight_after v ws v.hand v.wasted,
        keeps,
        tt,
        moves k s o id v me rights ws ws v.hand v.wasted move,
        record {
          goes = goes k s o id v me rights told i (bit_or x 1) v.hand v.wasted m.1 move;
          kept = kept k s o id v me rights told ws (ap (λ l. (shows k l).rows) e);
          proper = (range, proper);
          before = before;
          won = λ q at unforced. absurd (true≢false (sym unforced ∙ free));
          lost = λ q at no_longer. (refl, ap (state_at (world_of v.nodes v.rows ws)) {x = q} {y = c.0} (omega (arith, at, is)) ∙ (ap (λ w. state_at w c.0) world ∙ (ap (option_map (λ (y : Node). y.state)) here ∙ ap Some is')));
        },
      )

  tried_by : (r : Rec) → recs (seen_by m.0) c.0 ≡ Some r → is_pending r ≡ true → is_funded (shows k s.words) c.0 r ≡ true → (st : SuspState) → node_at (shows k s.words) c.0 ≡ Some (record { rec = r; state = st }) → st ≡ state_of_word (slice_index s.words i) → state_word (state_of_word (slice_index s.words i)) ≡ slice_index s.words i → state_in_range (state_of_word (slice_index s.words i)) ≡ true
      → c.0 < places_of k.nodes → Answer
  tried_by r seen pending paid (Claimed g) here is' proper range inside = not_won r (Claimed g) refl here is' proper range
  tried_by r seen pending paid (Done place steps g) here is' proper range inside = not_won r (Done place steps g) refl here is' proper range
  tried_by r seen pending paid (Unforced g) here is' proper range inside =
      let v = m.0 in
      let h : Hand = hand_won (recs (seen_by v)) v.hand c in
      let small : g < 65536 = state_small (Unforced g) (ap state_in_range is' ∙ range) in
      let w : bit_or x 1 ≡ state_word (Claimed g) = claim_word x g (sym is') proper small in
      let at : slice_set s.words (state_word_at c.0) (state_word (Claimed g)) ≡ ws = ap₂ (λ a b. slice_set s.words a b) (sym is) (sym w) in
      let move : Move k s o id v ws ws h v.wasted = subst (λ l. Move k s o id v l l h v.wasted) at (wins k s o id v me rights c r g seen here inside pending paid) in
      let range' : state_in_range (Claimed g) ≡ true = Rattle.heap_store.proofs.PlainSteps.claimed_fits g small in
      let now = claims.now k s o id v me rights c.0 r (Unforced g) (Claimed g) h here inside range' in (
        sight_after v ws h v.wasted,
        keeps,
        tt,
        moves k s o id v me rights ws ws h v.wasted move,
        record {
          goes = goes k s o id v me rights told i (bit_or x 1) h v.wasted m.1 move;
          kept = kept k s o id v me rights told ws (ap (λ l. (shows k l).rows) (sym at) ∙ ap (λ y. y.rows) now);
          proper = (range, proper);
          before = before;
          won = λ q at' unforced. ap (hand_won (recs (seen_by v)) v.hand) (ap (λ (z : ℕ). record { 0 = z }) {x = c.0} {y = q.0} (omega (arith, at', is)));
          lost = λ q at' no_longer. absurd (true≢false (ap is_unforced is' ∙ no_longer));
        },
      )

pub try_allowed : (k : Size) (n id : ℕ) (m : Sat) (i : ℕ) (c : Ref) → i ≡ state_word_at c.0 → 0 < length m.0.numbers → m.0.told ≡ [] → IsSound m.0 → holds (recs (seen_by m.0)) c.0 is_pending ≡ true → is_funded_at (seen_by m.0) c.0 ≡ true → Allows (IsKept k) n id m i (λ y. bit_or y 1) (Tried (step n i 1 0 none) m)
try_allowed k n id m i c is rights told sound pending funded s o homes me _ =
    let v = m.0 in let sz = (o.seats id v me).size rights in
    let t = at_true is_pending (recs (seen_by v) c.0) pending in
    let h = shown_here k s o id v me rights c.0 t.0 t.1 in
    let u = at_true (is_funded (seen_by v) c.0) (recs (seen_by v) c.0) funded in
    let grows = claims.seen_grows k s o id v me rights in
    let paid : is_funded (shows k s.words) c.0 t.0 ≡ true = funded_up (seen_by v) (shows k s.words) (lawful_names sound.well.world) grows.records
    (omega (arith, length-tabulate (node_of_words v.words) 0 (places_of v.nodes), length-tabulate (node_of_words s.words) 0 (places_of k.nodes), sz.0)) c.0 t.0 (ap (is_funded (seen_by v) c.0) (one_value t.0 u.0 (sym t.1 ∙ u.1)) ∙ u.2) in
    let same : state_word_at c.0 ≡ i = sym is in
    let st-is : h.0 ≡ state_of_word (slice_index s.words i) = h.2 ∙ ap (λ z. state_of_word (slice_index s.words z)) same in
    let proper : state_word (state_of_word (slice_index s.words i)) ≡ slice_index s.words i = subst (λ z. state_word (state_of_word (slice_index s.words z)) ≡ slice_index s.words z) same (o.well.states c.0 h.3) in
    let range : state_in_range (state_of_word (slice_index s.words i)) ≡ true = subst (λ z. state_in_range (state_of_word (slice_index s.words z)) ≡ true) same (o.well.ranges c.0 h.3) in
    tried_by k n id m i c is rights told s o me t.0 t.1 t.2 paid h.0 h.1 st-is proper range h.3

pub spend_allowed : (k : Size) (n id : ℕ) (m : Sat) (i p x : ℕ) (new : SuspState) → i ≡ state_word_at p → x ≡ state_word new → 0 < length m.0.numbers → m.0.told ≡ [] → IsSound m.0 → holds_claim m.0.hand p ≡ true → MaySpend m.0 p new → Allows (IsKept k) n id m i (λ _. x) (λ _. Spent (step n i x 0 none) m x)
spend_allowed k n id m i p x new is word rights told sound mine may s o homes me _ =
    let v = m.0 in let ws : List ℕ = slice_set s.words i x in
    let h : Hand = spent_hand (recs (seen_by v)) v.hand p new in
    let at : slice_set s.words (state_word_at p) (state_word new) ≡ ws = ap₂ (λ a b. slice_set s.words a b) (sym is) (sym word) in
    let move : Move k s o id v ws ws h v.wasted = subst (λ l. Move k s o id v l l h v.wasted) at (spends k s o id v me rights told sound p new mine may) in
    let back : state_of_word x ≡ new = ap state_of_word word ∙ word_state new may.range in
    let t = shown_here k s o id v me rights p may.rec may.here in
    let now = claims.now k s o id v me rights p may.rec t.0 new h t.1 t.3 may.range in
    let shown' : state_at (world_of v.nodes v.rows ws) p ≡ Some (state_of_word x) = ap (λ w. state_at w p) (world_is k s o id v me rights told ws) ∙ (ap (λ l. state_at (shows k l) p) (sym at) ∙ (spent_state k s o id v me rights told sound p new mine may ∙ ap Some (sym back))) in (
      sight_after v ws h v.wasted,
      keeps,
      tt,
      moves k s o id v me rights ws ws h v.wasted move,
      record {
        goes = goes k s o id v me rights told i x h v.wasted m.1 move;
        kept = kept k s o id v me rights told ws (ap (λ l. (shows k l).rows) (sym at) ∙ ap (λ y. y.rows) now);
        hand = λ q at'. ap₂ (spent_hand (recs (seen_by v)) v.hand) {x = p} {y = q} (omega (arith, at', is)) (sym back);
        state = λ q at'. ap (state_at (world_of v.nodes v.rows ws)) {x = q} {y = p} (omega (arith, at', is)) ∙ shown';
      },
    )

-- ---- names and rows

pub name_allowed : (k : Size) (n id : ℕ) (m : Sat) → length m.0.numbers ≡ 1 → m.0.told ≡ [] → IsSound m.0 → slice_index m.0.words 1 < m.0.rows → Allows (IsKept k) n id m 1 (λ y. (y + 1) % 2 ^ 64) (DrewName (step n 1 1 0 none) m)
name_allowed k n id m one told sound some_left s o homes me _ =
    let v = m.0 in let x : ℕ = slice_index s.words 1 in let ws : List ℕ = slice_set s.words 1 ((x + 1) % 2 ^ 64) in
    let rights : 0 < length v.numbers = omega (arith, one) in
    let f = o.seats id v me in let sz = f.size rights in
    let low : slice_index s.words 1 ≤ 200064 = low_names k s o in
    let e : (x + 1) % 2 ^ 64 ≡ x + 1 = omega (arith, low) in
    let at : ws ≡ slice_set s.words 1 (x + 1) = ap (slice_set s.words 1) e in
    let now = names.now k s o id v me rights x ws refl at in
    let world : world_of v.nodes v.rows ws ≡ shows k s.words = world_is k s o id v me rights told ws ∙ now in
    let empty : (j : ℕ) → word_at (world_of v.nodes v.rows ws) (suc x) j ≡ 0 = λ j. ap (λ w. word_at w (suc x) j) world ∙ o.well.undrawn x j (omega arith) in
    let rows_same = kept k s o id v me rights told ws (ap (λ w. w.rows) now) in
    let before : length v.numbers ≡ v.callers → slice_index v.words 1 ≡ x = λ all. ap (λ (l : List ℕ). slice_index l 1) (exact_is k s o id v me rights told all) in
    let again : (h : Hand) → Goes (slice_set v.words 1 ((x + 1) % 2 ^ 64)) m (sight_after v ws h v.wasted, m.1) → Goes (slice_set v.words 1 (x + 1)) m (sight_after v ws h v.wasted, m.1) = λ h g. subst (λ y. Goes (slice_set v.words 1 y) m (sight_after v ws h v.wasted, m.1)) e g in
    ⊎_elim
    (λ room. let h : Hand = hand_named v.hand (suc x) in let move = names_drawn k s o id v me rights x ws refl at room in (
      sight_after v ws h v.wasted,
      keeps,
      tt,
      moves k s o id v me rights ws ws h v.wasted move,
      record { goes = again h (goes k s o id v me rights told 1 ((x + 1) % 2 ^ 64) h v.wasted m.1 move); kept = rows_same; few = omega (arith, low); least = f.names_up; before = before; some = λ _. refl; none = λ past. absurd (omega (arith, past, room, sz.1)); unseen = unseen; empty = empty },
    ))
    (λ past. let move = names_past k s o id v me rights x ws refl at told (omega (arith, some_left, sz.1)) past (exact_one k s o id v me rights told one) in (
      sight_after v ws v.hand v.wasted,
      keeps,
      tt,
      moves k s o id v me rights ws ws v.hand v.wasted move,
      record { goes = again v.hand (goes k s o id v me rights told 1 ((x + 1) % 2 ^ 64) v.hand v.wasted m.1 move); kept = rows_same; few = omega (arith, low); least = f.names_up; before = before; some = λ room. absurd (omega (arith, past, room, sz.1)); none = λ _. refl; unseen = unseen; empty = empty },
    ))
    (cases_lt x k.rows)
  where
    unseen : (i j : ℕ) → word_at (seen_by m.0) i j ≢ 0 → i < suc (slice_index s.words 1)
    unseen zero j ne = omega arith
    unseen (suc i) j ne = ⊎_elim (λ l. omega (arith, l)) (λ past. absurd (ne (sound.well.undrawn i j (let u = (o.seats id m.0 me).names_up in omega (arith, past, u))))) (cases_lt i (slice_index s.words 1))

pub store_allowed : (k : Size) (n id : ℕ) (m : Sat) (at i j x : ℕ) (caller refused : ℕ) (last : Full) (drawn named : ℕ) → at ≡ row_word_at m.0.nodes i j → m.0.numbers ≡ caller ∷ [] → m.0.told ≡ [] → IsSound m.0
    → MayStore (view_with m.0 caller refused last drawn named) (suc i) j x → Allows (IsKept k) n id m at (λ _. x) (λ _. StoredWord (step n at x 0 none) m x)
store_allowed k n id m at i j x caller refused last drawn named is number told sound may s o homes me _ =
    let v = m.0 in let ws : List ℕ = slice_set s.words at x in
    let rights : 0 < length v.numbers = omega (arith, ap length number) in
    let sz = (o.seats id v me).size rights in
    let h : Hand = row_hand v caller (suc i) j x in
    let place : row_word_at k.nodes i j ≡ at = sym (is ∙ ap (λ z. row_word_at z i j) sz.0) in
    let same : slice_set s.words (row_word_at k.nodes i j) x ≡ ws = ap (λ z. slice_set s.words z x) place in
    let move : Move k s o id v ws ws h v.wasted = subst (λ l. Move k s o id v l l h v.wasted) same (stores k s o id v me caller number told sound refused last drawn named i j x may) in
    let world = world_is k s o id v me rights told ws in (
      sight_after v ws h v.wasted,
      keeps,
      tt,
      moves k s o id v me rights ws ws h v.wasted move,
      record {
        goes = goes k s o id v me rights told at x h v.wasted m.1 move;
        stored = λ c a b number' few inside at'.
            (let ia : i ≡ a = omega (arith, at', is, few, may.word) in let jb : j ≡ b = omega (arith, at', is, few, may.word) in
            let cc' : caller ≡ c = ap (λ ns. Rattle.std.specs.Prelude.slice_index ns 0) (sym number ∙ number') in
            subst (λ z. (KeepsWords v.hand (store_word (seen_by v) (suc z) b x) (world_of v.nodes v.rows ws)) × (h ≡ row_hand v c (suc z) b x) × (word_at (world_of v.nodes v.rows ws) (suc z) b ≡ x)) ia
            (subst (λ z. (KeepsWords v.hand (store_word (seen_by v) (suc i) z x) (world_of v.nodes v.rows ws)) × (h ≡ row_hand v c (suc i) z x) × (word_at (world_of v.nodes v.rows ws) (suc i) z ≡ x)) jb (
              (λ n had. ap (λ w. words_at w n) world ∙ (ap (λ l. words_at (shows k l) n) (sym same) ∙ stored_words k s o id v me caller number told sound refused last drawn named i j x may n had)),
              ap (λ z. row_hand v z (suc i) j x) cc',
              ap (λ w. word_at w (suc i) j) world ∙ (ap (λ l. word_at (shows k l) (suc i) j) (sym same) ∙ stored_word k s o id v me caller number told sound refused last drawn named i j x may),
            )));
      },
    )
