-- Publishing a record keeps the rule.
use Rattle.std.proofs.Common.{◌≡◌, ℕ, suc, ◌+◌, ◌-◌, ◌<◌, List, [], ◌∷◌, length, refl, sym, ap, ap₂, ◌∙◌, arith, subst, true, false, Some, None, ltb}
use Rattle.std.specs.Prelude.{slice_index, slice_set, min}
use Rattle.std.proofs.lemmas.Bool.{true≢false, cases_eq}
use Rattle.std.proofs.lemmas.List.{get_or-set_other, length-set}
use mathlib.Core.Logic.{⊎_elim}
use mathlib.Core.Option.{some}
use lib.ListN.{get_elem?}
use Rattle.lazy_rec.specs.declared.records.Rec.{Rec}
use Rattle.lazy_rec.specs.declared.states.SuspState.TheVariants.{Unforced}
use Rattle.lazy_rec.specs.Named.{at_record}
use Rattle.lazy_rec.specs.Packed.{words_of}
use Rattle.heap_store.specs.declared.claims.Full.{Full}
use Rattle.heap_store.specs.World.{World, recs, node_at, show, is_published, is_claimed_at}
use Rattle.heap_store.specs.Rows.{row_at, is_ended_at}
use Rattle.heap_store.specs.Growth.{Grows}
use Rattle.heap_store.specs.Lawful.{IsLawful}
use Rattle.heap_store.specs.Hand.{IsLawfulHand, contains, holds_claim, is_later}
use Rattle.heap_store.specs.Shared.{one_if}
use Rattle.heap_store.specs.Budget.{gain}
use Rattle.heap_store.specs.View.{Fits}
use Rattle.heap_store.proofs.ShowLaws.{show_adds}
use Rattle.heap_store.proofs.LawfulLaws.{lawful_put}
use Rattle.heap_store.proofs.PlainSeen.{claimed-put}
use Rattle.heap_store.proofs.Steps.{places-mark}
use Rattle.word_world.specs.Words.{state_word_at, record_word_at, row_word_at, places_of, world_of, node_of_words}
use Rattle.word_world.specs.LawfulWords.{IsLawfulWords}
use Rattle.word_world.proofs.Tables.{length-tabulate}
use Rattle.word_world.proofs.WordSteps.{published_world, published_grows, published_lawful, place_bare}
use Rattle.word_world.proofs.Lifts.{lawful_now, hand_now, hand_other, names_now, names_base, settled_now, without_other, without_same}
use Rattle.word_store.specs.declared.sight.Sight.{Sight}
use Rattle.word_store.specs.declared.sight.Size.{Size}
use Rattle.word_store.specs.Rule.{IsKept, IsSeat, shows, seen_by, plan_of}
use Rattle.word_store.specs.Sound.{IsSound}
use Rattle.word_store.specs.Views.{view_with}
use Rattle.word_store.specs.Plays.{sight_after, put_hand}
use Rattle.word_store.proofs.Sums.{false_by}
use Rattle.word_store.proofs.Moves.{St, Move, sees_now}
use Rattle.word_store.proofs.Told.{tells_same}
use Rattle.word_store.proofs.Seats.{place_given, others_reserve, others_claim}
use Rattle.word_store.proofs.HandLaws.{claim_published}
use Rattle.word_store.proofs.Balances.{put_balance}
use Rattle.word_store.proofs.PlaceSteps.{full_if, calm_if, few_if}

module _ (k : Size) (s : St) (o : IsKept k s) (id : ℕ) (v : Sight) (me : get_elem? s.views id ≡ some v) (rights : 0 < length v.numbers) (told : v.told ≡ []) (sound : IsSound v)
    (caller refused : ℕ) (last : Full) (drawn named : ℕ) (p x : ℕ) (r : Rec) (mine : contains v.hand.reserved p ≡ true)
    (words : ◌≡◌ {A = List ℕ} (x ∷ slice_index v.words (record_word_at p 1) ∷ slice_index v.words (record_word_at p 2) ∷ slice_index v.words (record_word_at p 3) ∷ []) (words_of r))
    (fits : Fits (view_with v caller refused last drawn named) p r) where
  f : IsSeat k s.words v
  f = o.seats id v me

  abbrev w : World
  w = shows k s.words

  abbrev a : World
  a = seen_by v

  abbrev ws : List ℕ
  ws = slice_set s.words (record_word_at p 0) x

  sizes : (v.nodes ≡ k.nodes) × (v.rows ≡ k.rows) × (v.callers ≡ k.callers) × (v.plan ≡ (plan_of k))
  sizes = (o.seats id v me).size rights

  seen_grows : Grows (seen_by v) (shows k s.words)
  seen_grows = subst (λ y. Grows y (shows k s.words)) (ap₂ (λ c d. world_of c d v.words) (sym sizes.0) (sym sizes.1)) f.seen

  inside : p < places_of k.nodes
  inside = let g = place_given k s o id v me p mine in omega (arith, g, o.room)

  free : is_published (recs (shows k s.words)) p ≡ false
  free = f.hand.reserved p mine

  words_now : ◌≡◌ {A = List ℕ} (x ∷ slice_index s.words (record_word_at p 1) ∷ slice_index s.words (record_word_at p 2) ∷ slice_index s.words (record_word_at p 3) ∷ []) (words_of r)
  words_now = three _ _ _ _ _ _ (f.records told p 1 mine (omega arith)) (f.records told p 2 mine (omega arith)) (f.records told p 3 mine (omega arith)) ∙ words
    where
      three : (b c d b' c' d' : ℕ) → b' ≡ b → c' ≡ c → d' ≡ d → ◌≡◌ {A = List ℕ} (x ∷ b ∷ c ∷ d ∷ []) (x ∷ b' ∷ c' ∷ d' ∷ [])
      three b c d b' c' d' e1 e2 e3 = rw (e1, e2, e3) refl

  in_list : p < length (shows k s.words).nodes
  in_list = omega (arith, inside, length-tabulate (node_of_words s.words) 0 (places_of k.nodes))

  none : node_at (shows k s.words) p ≡ None
  none = place_bare k.nodes k.rows (plan_of k) s.words o.wide o.well p x r inside free words_now fits.laws.range

  -- in the world that was seen
  seen_in : p < length (seen_by v).nodes
  seen_in = omega (arith, inside, sizes.0, length-tabulate (node_of_words v.words) 0 (places_of v.nodes))

  seen_none : node_at (seen_by v) p ≡ None
  seen_none = by (node_at (seen_by v) p) (sound.hand.reserved p mine)
    where
      by : (z : _) → at_record false (λ _. true) (Rattle.std.specs.Prelude.option_map (λ (n : Rattle.heap_store.specs.declared.nodes.Node.Node). n.rec) z) ≡ false → z ≡ None
      by None e = refl
      by (Some n) e = absurd (true≢false e)

  seen_with : IsLawful (show (seen_by v) p r (Unforced 0))
  seen_with = lawful_put (seen_by v) p r seen_in seen_none sound.well.world v.hand sound.hand fits.origin fits.follows fits.laws

  same_size : length (seen_by v).nodes ≡ length (shows k s.words).nodes
  same_size = omega (arith, length-tabulate (node_of_words v.words) 0 (places_of v.nodes), length-tabulate (node_of_words s.words) 0 (places_of k.nodes), sizes.0)

  pub now : shows k (slice_set s.words (record_word_at p 0) x) ≡ show (shows k s.words) p r (Unforced 0)
  now = published_world k.nodes k.rows (plan_of k) s.words o.wide o.well p x r inside free words_now fits.laws.range

  lawful : IsLawful (show (shows k s.words) p r (Unforced 0))
  lawful = lawful_now a w p r in_list none o.well.world seen_in sound.well.world seen_with seen_grows fits.laws v.hand f.hand fits.origin fits.follows

  well : IsLawfulWords k.nodes k.rows (plan_of k) (slice_set s.words (record_word_at p 0) x)
  well = published_lawful k.nodes k.rows (plan_of k) s.words o.wide o.well p x r inside free words_now fits.laws.range lawful
      (names_now a w p r in_list none o.well.world seen_in sound.well.world seen_with seen_grows fits.laws v.hand f.hand fits.origin fits.follows)
      (settled_now a w p r in_list none o.well.world seen_in sound.well.world seen_with seen_grows fits.laws v.hand f.hand fits.origin fits.follows same_size fits.settled)

  other : (i : ℕ) → (i ≡ record_word_at p 0 → ⊥) → slice_index (slice_set s.words (record_word_at p 0) x) i ≡ slice_index s.words i
  other i ne = get_or-set_other s.words (record_word_at p 0) i x 0 ne

  hand : IsLawfulHand (shows k (slice_set s.words (record_word_at p 0) x)) (put_hand v p r)
  hand = subst (λ y. IsLawfulHand y (put_hand v p r)) (sym now)
      (hand_now a w p r in_list none o.well.world seen_in sound.well.world seen_with seen_grows fits.laws v.hand f.hand fits.origin fits.follows (recs (seen_by v)) (gain (length (seen_by v).nodes) (recs (seen_by v)) p r))

  marks : (q : ℕ) → holds_claim (put_hand v p r) q ≡ holds_claim v.hand q
  marks q = ap (λ l. contains l q) (places-mark (is_later p r) v.hand.claims)

  pub puts : Move k s o id v (slice_set s.words (record_word_at p 0) x) (slice_set s.words (record_word_at p 0) x) (put_hand v p r) v.wasted
  puts =
      let b = show w p r (Unforced 0) in
      let adds = show_adds w p r (Unforced 0) in_list none in
      let full = full_if k s o id v me rights in
      let row_same : (i : ℕ) → row_at (shows k ws) i ≡ row_at w i = λ i. ap (λ y. row_at y i) now in
      record {
        long = length-set s.words (record_word_at p 0) x;
        well = well;
        grows = subst (Grows w) (sym now) (published_grows k.nodes k.rows (plan_of k) s.words o.wide o.well p x r inside free words_now fits.laws.range);
        sees = sees_now k v ws (put_hand v p r) v.wasted (λ any. (let l = full any in omega (arith, l, other 0 (λ z. omega (arith, z)))));
        places_up = omega (arith, other 0 (λ z. omega (arith, z)));
        names_up = omega (arith, other 1 (λ z. omega (arith, z)));
        given = o.given;
        room = o.room;
        drawn = omega (arith, other 0 (λ z. omega (arith, z)));
        full = λ any. (let l = full any in omega (arith, l, other 0 (λ z. omega (arith, z))));
        short = λ more. absurd (omega (arith, more));
        most = f.wasted_most;
        few = few_if k s o id v me rights ws (put_hand v p r) v.wasted (other 1 (λ z. omega (arith, z)));
        calm = λ one. (calm_if k s o id v me rights one, (let c = (o.calm one).1 in omega (arith, c, other 1 (λ z. omega (arith, z)))));
        hand = hand;
        works = f.works;
        mine = λ i t e c. f.mine i t (sym (row_same i) ∙ e) c;
        vain = f.vain;
        vain_rows = o.vain_rows;
        tells = tells_same (subst (Grows w) (sym now) (published_grows k.nodes k.rows (plan_of k) s.words o.wide o.well p x r inside free words_now fits.laws.range)) o.told v.wasted v.wasted v.hand.vain v.hand.vain refl;
        hands = λ j u ne at. subst (λ y. IsLawfulHand y u.hand) (sym now) (hand_other a w p r in_list none o.well.world seen_in sound.well.world seen_with seen_grows fits.laws v.hand f.hand fits.origin fits.follows u.hand (o.seats j u at).hand
            (false_by _ (λ had. true≢false (sym mine ∙ (others_reserve k s o id v me j u ne at p had).0)))
            (λ q had theirs. true≢false (sym theirs ∙ (others_claim k s o id v me j u ne at q had).0)));
        others = λ j u ne at i t e c. (o.seats j u at).mine i t (sym (row_same i) ∙ e) c;
        claims = λ q. ap₂ (λ y z. one_if y + one_if z) (marks q) (sym (ap (λ y. is_claimed_at y q) now ∙ claimed-put w p r in_list none o.well.world q));
        places = λ q. ⊎_elim
            (λ eq. (let gone : contains (put_hand v p r).reserved q ≡ false = ap (contains (put_hand v p r).reserved) eq ∙ without_same p v.hand.reserved in
            let there : is_published (recs (shows k ws)) q ≡ true = ap (λ y. is_published (recs y) q) now ∙ (ap (is_published (recs b)) eq ∙ ap (at_record false (λ _. true)) adds.there) in
            omega (arith, ap one_if gone, ap one_if there, ap one_if (ap (contains v.hand.reserved) eq ∙ mine), ap one_if (ap (is_published (recs w)) eq ∙ free))))
            (λ ne. (let same = without_other p q v.hand.reserved ne in
            let there : is_published (recs (shows k ws)) q ≡ is_published (recs w) q = ap (λ y. is_published (recs y) q) now ∙ ap (at_record false (λ _. true)) (adds.others q ne) in
            omega (arith, ap one_if same, ap one_if there)))
            (cases_eq q p);
        names = λ i. omega (arith, ap (λ y. one_if (is_ended_at (row_at y) (suc i))) now, ap (λ n. one_if (ltb i (min n k.rows))) (other 1 (λ z. omega (arith, z))));
        lost = o.lost + (gain (length a.nodes) (recs a) p r - gain (length w.nodes) (recs w) p r);
        balance = put_balance k s o id v me ws (sight_after v ws (put_hand v p r) v.wasted) p r a now in_list none (sound.reserved_low p mine).0 mine sound.well.world seen_grows.records same_size
            (claim_published (seen_by v) v.hand sound.hand)
            (names_base a w p r in_list none o.well.world seen_in sound.well.world seen_with seen_grows fits.laws v.hand f.hand fits.origin fits.follows)
            fits.paid refl;
        records = λ q j low inside' none-here unpublished. sym (other (record_word_at q j) (λ z. (let eq : q ≡ p = omega (arith, z, low) in true≢false (sym mine ∙ (ap (contains v.hand.reserved) (sym eq) ∙ none-here)))));
        states = λ q inside' none-here claimed. sym (other (state_word_at q) (λ z. omega (arith, z)));
        row_words = λ i j none-here open_yet low few. sym (other (row_word_at k.nodes i j) (λ z. omega (arith, z, inside)));
      }

  pub put_there : recs (shows k (slice_set s.words (record_word_at p 0) x)) p ≡ Some r
  put_there = ap (λ y. recs y p) now ∙ (show_adds (shows k s.words) p r (Unforced 0) in_list none).there
