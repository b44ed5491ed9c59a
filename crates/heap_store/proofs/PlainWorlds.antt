-- What the drawn places and rows of a plain heap show.
use Rattle.std.proofs.Common.{◌≡◌, ℕ, zero, suc, ◌+◌, ◌<◌, ◌≤◌, Bool, true, false, List, [], length, Option, Some, None, refl, sym, ap, ◌∙◌, arith, subst, ◌⊎◌, inl, inr, ⊎_elim}
use Rattle.std.specs.Prelude.{slice_set, slice_index_or, option_map}
use Rattle.std.specs.List.{list_all}
use Rattle.std.proofs.lemmas.Bool.{cases_lt, and_parts}
use Rattle.std.proofs.lemmas.List.{get_or_default, get_or_past}
use Rattle.lazy_rec.specs.declared.records.Rec.{Rec}
use Rattle.lazy_rec.specs.declared.states.SuspState.{SuspState}
use Rattle.lazy_rec.specs.Named.{Records, at_record}
use Rattle.heap_store.specs.declared.nodes.Node.{Node}
use Rattle.heap_store.specs.declared.claims.HeldClaim.{HeldClaim}
use Rattle.heap_store.specs.declared.claims.OpenRow.{OpenRow}
use Rattle.heap_store.specs.declared.claims.Full.{Full}
use Rattle.heap_store.specs.World.{World, recs, node_at, show, holds, fixed_places}
use Rattle.heap_store.specs.Rows.{word, row_of, row_at, words_at, is_ended_at}
use Rattle.heap_store.specs.Completion.{is_empty_tree}
use Rattle.heap_store.specs.Hand.{IsLawfulHand, contains}
use Rattle.heap_store.specs.View.{IsRefusal, IsLawfulView, is_there}
use Rattle.heap_store.specs.Plain.{IsPlain, plain_world, plain_hand, plain_view, held_things, filled_up, no_words, free_places, open_names, is_ended_row}
use Rattle.heap_store.specs.Budget.{alone_with, IsBalanced}
use Rattle.heap_store.proofs.GrowthLaws.{at_true}
use Rattle.heap_store.proofs.PlainBudget.{affordable_balanced, balanced_budget, own_affordable}
use Rattle.heap_store.proofs.PlainLists.{filled-within, filled-beyond, filled-set, length-filled, count-filled, free_to, distinct-free, length-free, open_to, open_from, distinct-open}

-- ---- places

module _ (capacity row_capacity : ℕ) (nodes : List (Option Node)) (rows : List (List ℕ)) where
  pub node-drawn : (p : ℕ) → p < length nodes → node_at (plain_world capacity row_capacity nodes rows) p ≡ slice_index_or nodes p None
  node-drawn p l = filled-within None None (fixed_places + capacity) nodes p l

  pub node-undrawn : (p : ℕ) → length nodes ≤ p → node_at (plain_world capacity row_capacity nodes rows) p ≡ None
  node-undrawn p l = filled-beyond None (fixed_places + capacity) nodes p l

  pub drawn_there : (p : ℕ) (n : Node) → node_at (plain_world capacity row_capacity nodes rows) p ≡ Some n → p < length nodes
  drawn_there p n e = ⊎_elim (λ l. l) (λ l. (let z : None ≡ Some n = sym (node-undrawn p l) ∙ e in cc)) (cases_lt p (length nodes))

  -- the node that an index reads
  pub node_read : (p : ℕ) (o : Option Node) → o ≡ slice_index_or nodes p o → p < length nodes → node_at (plain_world capacity row_capacity nodes rows) p ≡ o
  node_read p o e l = node-drawn p l ∙ (get_or_default nodes p None o l ∙ sym e)

  pub show-drawn : (p : ℕ) (r : Rec) (s : SuspState) → p < length nodes → plain_world capacity row_capacity (slice_set nodes p (Some (record { rec = r; state = s }))) rows ≡ show (plain_world capacity row_capacity nodes rows) p r s
  show-drawn p r s l = ap (λ (ns : List (Option Node)). record { nodes = ns; rows = filled_up no_words row_capacity rows }) (sym (filled-set None (fixed_places + capacity) nodes p (Some (record { rec = r; state = s })) l))

  pub inside_world : (p : ℕ) → p < length nodes → length nodes ≤ fixed_places + capacity → p < length (plain_world capacity row_capacity nodes rows).nodes
  inside_world p l fits = rw (length-filled None (fixed_places + capacity) nodes fits) (omega (arith, l, fits))

node_of_rec : (o : Option Node) (r : Rec) → option_map (λ (n : Node). n.rec) o ≡ Some r → (n : Node) × (o ≡ Some n) × (n.rec ≡ r)
node_of_rec None r e = cc
node_of_rec (Some n) r e = (n, refl, cc)

pub rec_node : (w : World) (p : ℕ) (r : Rec) → recs w p ≡ Some r → (n : Node) × (node_at w p ≡ Some n) × (n.rec ≡ r)
rec_node w p r e = node_of_rec (node_at w p) r e

pub published_rec : (rs : Records) (p : ℕ) (test : Rec → Bool) → holds rs p test ≡ true → (r : Rec) × (rs p ≡ Some r) × (test r ≡ true)
published_rec rs p test h = at_true test (rs p) h

-- ---- the law of the view

pub zero_word : (i : ℕ) → word no_words i ≡ 0
zero_word zero = refl
zero_word (suc zero) = refl
zero_word (suc (suc zero)) = refl
zero_word (suc (suc (suc zero))) = refl
zero_word (suc (suc (suc (suc zero)))) = refl
zero_word (suc (suc (suc (suc (suc zero))))) = refl
zero_word (suc (suc (suc (suc (suc (suc zero)))))) = refl
zero_word (suc (suc (suc (suc (suc (suc (suc zero))))))) = refl
zero_word (suc (suc (suc (suc (suc (suc (suc (suc i)))))))) = refl

pub rows_undrawn : (n k : ℕ) (rows : List (List ℕ)) → length rows ≤ k → (slice_index_or (filled_up no_words n rows) k [] ≡ no_words) ⊎ (slice_index_or (filled_up no_words n rows) k [] ≡ [])
rows_undrawn n k rows l = ⊎_elim
    (λ m. inl (get_or_default (filled_up no_words n rows) k [] no_words m ∙ filled-beyond no_words n rows k l))
    (λ m. inr (get_or_past (filled_up no_words n rows) k [] m)) (cases_lt k (length (filled_up no_words n rows)))

module _ (capacity row_capacity : ℕ) (nodes : List (Option Node)) (claims : List HeldClaim) (rows : List (List ℕ)) (h : IsPlain capacity row_capacity nodes claims rows) where
  pub fixed_drawn : fixed_places ≤ length nodes
  fixed_drawn =
      let t = published_rec (recs (plain_world capacity row_capacity nodes rows)) 4 is_empty_tree (and_parts _ _ h.seen.lawful.fixed).1 in
      let n = rec_node (plain_world capacity row_capacity nodes rows) 4 t.0 t.1 in
      from_four (drawn_there capacity row_capacity nodes rows 4 n.0 n.1)
    where
      from_four : 4 < length nodes → fixed_places ≤ length nodes
      from_four l = omega arith

  pub undrawn_row : (i : ℕ) → length rows < i → row_at (plain_world capacity row_capacity nodes rows) i ≡ None
  undrawn_row zero l = absurd (omega arith)
  undrawn_row (suc k) l = ⊎_elim (λ e. rw e refl) (λ e. rw e refl) (rows_undrawn row_capacity k rows (omega arith))

  pub words-drawn : (k : ℕ) → k < length rows → words_at (plain_world capacity row_capacity nodes rows) (suc k) ≡ slice_index_or rows k []
  words-drawn k l = filled-within no_words [] row_capacity rows k l

  ended-drawn : (k : ℕ) → k < length rows → is_ended_at (row_at (plain_world capacity row_capacity nodes rows)) (suc k) ≡ is_ended_row (row_of (suc k) (slice_index_or rows k []))
  ended-drawn k l = ap (λ ws. is_ended_row (row_of (suc k) ws)) (words-drawn k l)

  pub name_to : (i : ℕ) → contains (open_names 1 rows) i ≡ true → (1 ≤ i) × (is_ended_at (row_at (plain_world capacity row_capacity nodes rows)) i ≡ false) × (i ≤ length rows)
  name_to i m =
      let o = open_to 1 i rows m in
      let e : i ≡ suc o.at = omega (arith, o.here) in
      let k : is_ended_row (row_of (suc o.at) (slice_index_or rows o.at [])) ≡ false = subst (λ z. is_ended_row (row_of z (slice_index_or rows o.at [])) ≡ false) e o.open_yet in
      (omega (arith, e), subst (λ z. is_ended_at (row_at (plain_world capacity row_capacity nodes rows)) z ≡ false) (sym e) (ended-drawn o.at o.within ∙ k), omega (arith, e, o.within))

  pub name_from : (i : ℕ) → 1 ≤ i → i ≤ length rows → is_ended_at (row_at (plain_world capacity row_capacity nodes rows)) i ≡ false → contains (open_names 1 rows) i ≡ true
  name_from zero low high e = absurd (omega arith)
  name_from (suc k) low high e =
      let one : 1 + k ≡ suc k = omega arith in
      let f : is_ended_row (row_of (1 + k) (slice_index_or rows k [])) ≡ false = subst (λ z. is_ended_row (row_of z (slice_index_or rows k [])) ≡ false) (sym one) (sym (ended-drawn k (omega arith)) ∙ e) in
      subst (λ z. contains (open_names 1 rows) z ≡ true) one (open_from 1 k rows (omega arith) f)

  pub free_unpublished : (p : ℕ) → contains (free_places 0 nodes) p ≡ true → (p < length nodes) × (node_at (plain_world capacity row_capacity nodes rows) p ≡ None)
  free_unpublished p m =
      let f = free_to 0 p nodes m in
      let e : p ≡ f.at = omega (arith, f.here) in
      (omega (arith, e, f.within), ap (node_at (plain_world capacity row_capacity nodes rows)) e ∙ (node-drawn capacity row_capacity nodes rows f.at f.within ∙ f.none))

  pub lawful_hand : (open_rows : List OpenRow) → IsLawfulHand (plain_world capacity row_capacity nodes rows) (plain_hand (plain_world capacity row_capacity nodes rows) nodes claims rows open_rows)
  lawful_hand open_rows = record {
    claims = h.seen.well;
    marked = h.marked;
    claims_once = h.once;
    reserved = λ p m. ap (λ o. at_record false (λ _. true) (option_map (λ (n : Node). n.rec) o)) (free_unpublished p m).1;
    reserved_once = distinct-free 0 nodes;
    names = λ i m. (let t = name_to i m in (t.0, t.1));
    names_once = distinct-open 1 rows;
  }

  pub plain_balanced : (open_rows : List OpenRow) → IsBalanced (alone_with (plain_world capacity row_capacity nodes rows) (plain_hand (plain_world capacity row_capacity nodes rows) nodes claims rows open_rows)) 0
  plain_balanced open_rows =
      let w = plain_world capacity row_capacity nodes rows in
      affordable_balanced w (held_things claims (free_places 0 nodes) (open_names 1 rows) open_rows) (own_affordable w claims (free_places 0 nodes) (open_names 1 rows) open_rows h.budget)

  words_wide : (i : ℕ) → 1 ≤ i → i ≤ row_capacity → length (words_at (plain_world capacity row_capacity nodes rows) i) ≡ 8
  words_wide zero low high = absurd (omega arith)
  words_wide (suc k) low high = h.seen.wide k (rw (length-filled no_words row_capacity rows h.rows_fit) (omega arith))

  pub plain_lawful : (open_rows : List OpenRow) (refused : ℕ) (last : Full) → list_all (λ (o : OpenRow). contains (open_names 1 rows) o.name) open_rows ≡ true → (1 ≤ refused → IsRefusal capacity last) → IsLawfulView (plain_view nodes claims rows open_rows capacity row_capacity refused last)
  plain_lawful open_rows refused last opened refusal =
      let counted = count-filled is_there None (fixed_places + capacity) nodes refl in
      let all = length-free 0 nodes in
      record {
        world = h.seen.lawful;
        legal = h.seen.legal;
        roots = h.seen.roots;
        plan = λ events e i r k. cc;
        hand = lawful_hand open_rows;
        words = words_wide;
        unended = h.seen.unended;
        places = omega (arith, counted, all, h.fits);
        published_low = λ p is. (
            let t = published_rec (recs (plain_world capacity row_capacity nodes rows)) p (λ _. true) is in
            let n = rec_node (plain_world capacity row_capacity nodes rows) p t.0 t.1 in
            omega (arith, drawn_there capacity row_capacity nodes rows p n.0 n.1, h.fits, h.small));
        sized = rw (length-filled None (fixed_places + capacity) nodes h.fits) (omega (arith, h.small));
        reserved_low = λ p m. inside_world capacity row_capacity nodes rows p (free_unpublished p m).0 h.fits;
        drawn = λ _. omega (arith, counted, all, fixed_drawn);
        room = λ _. omega (arith, h.fits);
        claimed = λ _ s e. h.seen.held s ∙ e;
        unnamed = λ _ i l. undrawn_row i l;
        names = λ _ i low high e. name_from i low high e;
        rows = λ _. h.rows_fit;
        rows_few = h.rows_small;
        rows_low = λ i r e. ⊎_elim
            (λ beyond. (let z : None ≡ Some r = sym (undrawn_row i beyond) ∙ e in cc))
            (λ within. omega (arith, within, h.rows_fit)) (cases_lt (length rows) i);
        names_low = λ i m. (let t = name_to i m in omega (arith, t.2, h.rows_fit));
        open_in = opened;
        mine = λ c e i r f g. cc;
        vain = λ _. refl;
        refused = refusal;
        funded = h.funded;
        budget = λ _. balanced_budget (plain_world capacity row_capacity nodes rows) (plain_hand (plain_world capacity row_capacity nodes rows) nodes claims rows open_rows) (plain_balanced open_rows);
      }
