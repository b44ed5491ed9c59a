-- The put of a suspended concatenation.
use Rattle.std.proofs.Common.{◌≡◌, ℕ, suc, ◌+◌, ◌-◌, ◌<◌, ◌≤◌, eqb, ltb, leb, refl, sym, ap, ◌∙◌, arith, max, Bool, true, Some, List, [], ◌∷◌, ◌++◌, length}
use Rattle.std.specs.Prelude.{flat_map}
use Rattle.std.specs.List.{AllByRecursion}
use Rattle.std.proofs.lemmas.Bool.{and_from, eq-eqb, lt-ltb, le-leb, cond-false, ne_eqb}
use Rattle.lazy_rec.specs.declared.places.Ref.{Ref}
use Rattle.lazy_rec.specs.declared.places.Item.{Item}
use Rattle.lazy_rec.specs.declared.records.Rec.{Rec}
use Rattle.lazy_rec.specs.Named.{Records}
use Rattle.lazy_rec.specs.Meaning.{means}
use Rattle.lazy_rec.specs.Units.{family_of, paid}
use Rattle.heap_store.specs.Span.{Span}
use Rattle.heap_store.specs.World.{World, recs, holds, same_place}
use Rattle.heap_store.specs.Completion as top
use Rattle.heap_store.specs.Completion.{is_middle, are_nodes, on_digit}
use Rattle.heap_store.specs.Growth.{Grows}
use Rattle.heap_store.specs.Lawful.{IsLawful, is_of_level, height, is_rooted}
use Rattle.heap_store.specs.Hand.{Hand, contains}
use Rattle.heap_store.specs.View.{View, IsLawfulView, Fits, Quiet, Put}
use Rattle.heap_store.specs.Budget.{gain_at}
use Rattle.heap_store.specs.Jobs.{IsUnpassed}
use Rattle.heap_store.proofs.GrowthLaws.{at_true, grows_trans, grows_refl}
use Rattle.heap_store.proofs.LawfulLaws.{lawful_names}
use Rattle.heap_store.proofs.MadeLaws.{made_tree_up}
use Rattle.heap_store.proofs.MeaningLaws.{means_is, means_kept}
use Rattle.heap_store.proofs.RecordLaws.{height_kept}
use Rattle.heap_store.proofs.HeightLaws.{height_is, height_most}
use Rattle.heap_store.proofs.PutLaws.{place_fits}
use Rattle.heap_store.proofs.RangeLaws.{range_from}
use Rattle.heap_store.proofs.Steps.{unpassed_quiet}
use Rattle.heap_store.proofs.UnitLaws.{free}
use Rattle.finger_level.specs.declared.few.Few.{Few}
use Rattle.finger_level.specs.declared.few.Weight.{Weight}
use Rattle.finger_level.specs.declared.level.Digit.TheVariants as digits
use Rattle.finger_level.specs.declared.level.NodeRow.{NodeRow}
use Rattle.finger_level.specs.declared.level.Family.{Family}
use Rattle.finger_level.specs.declared.level.Family.TheVariants.{First, Later}
use Rattle.finger_level.specs.Few.{few_list}
use Rattle.finger_level.specs.Level.{all_of, row_list, row_places, middle_items}
use Rattle.finger_level.specs.Reads.{is_tree_rec, IsDigitAt}
use Rattle.finger_level.specs.Keyed.{HasKeys, AreKeyed, key_in}
use Rattle.finger_level.specs.Puts.{units_shown, IsTree, IsMiddle, IsLater, IsNext, MiddlePut, Laid, DigitPut, PartAsk, IsRowAt, RowPut, concat_record, BetweenAsk}
use Rattle.finger_level.proofs.Records.{FingerWell, fits_finger, fits_later}
use Rattle.finger_level.proofs.Values.{level_is, origin_low}
use Rattle.finger_level.proofs.Found.{digit_grows}
use Rattle.finger_level.proofs.Builds.{DigitWell, digit_shown, digit_means, tree_up, tree_named, digit_named}
use Rattle.finger_level.proofs.Laying.{laid_trans}
use Rattle.finger_level.proofs.NodePuts.{all_left, all_right}
use Rattle.finger_level.proofs.NodeRows.{higher, ListWell, row_well, row_later, row_is}
use Rattle.finger_level.proofs.Families.{next_fits, level_few}
use Rattle.finger_level.proofs.Funded.{first_gain}
use Rattle.finger_level.proofs.Suspending.{place_self, makes_next, no_units}
use Rattle.finger_level.proofs.Tails.{first_of}
use Rattle.finger_level.proofs.Pushing.{LaterFits, later_up, shift, further}
use Rattle.finger_level.proofs.Levels.{digit_low, on_few, split_length}
use Rattle.finger_level.proofs.Keying.{keyed_up, keyed_item, all_keyed_up, keyed_from, key_both}

-- ---- the record

-- a later one shows no unit
concat_free : (rs : Records) (p : ℕ) (l q r o : Ref) (off : ℕ) (w : Weight) → paid rs p (concat_record l q r o (suc off) w) ≡ []
concat_free rs p l q r o off w = no_units o.0 off w.size

-- what it names
pub record ConcatLow (w : World) (l q r : Ref) (o : ℕ) : Type 0 where
  pub left : height (recs w) l.0 < o
  pub digit : height (recs w) q.0 < o
  pub right : height (recs w) r.0 < o

pub concat_well : {w : World} (d p : ℕ) → p < 4194304 → (l q r o : Ref) (off : ℕ) (weight : Weight) (f : Few) → IsTree w d p l.0 → IsTree w d p r.0 → DigitWell w d q.0 f → q.0 < p → o.0 < 4194304 → off < 32 → weight.size ≤ 2147483647 → weight.key.0 < 18446744073709551616
    → weight.size ≡ length (means (recs w) l.0 ++ means (recs w) q.0 ++ means (recs w) r.0) → ConcatLow w l q r o.0 → is_rooted (recs w) p (concat_record l q r o off weight) ≡ true → FingerWell w p (concat_record l q r o off weight) d
concat_well {w} d p low l q r o off weight f kl kr kq under o_low off_low small key size lows root =
    let l_fits : l.0 < 4194304 = omega (arith, kl.under, low) in
    let r_fits : r.0 < 4194304 = omega (arith, kr.under, low) in
    let q_fits : q.0 < 4194304 = omega (arith, under, low) in
    let size_fits : weight.size < 2147483648 = omega (arith, small) in
    record {
      finger = refl;
      range = range_from (concat_record l q r o off weight) (omega arith, (l_fits, (r_fits, (q_fits, (o_low, (off_low, (size_fits, (key, tt)))))))) refl;
      names = (tree_named d p p l.0 (omega arith) kl, (tree_named d p p r.0 (omega arith) kr, (digit_named d p p q.0 f under (omega arith) kq, tt)));
      total = eq-eqb weight.size _ size;
      of_level = and_from _ (is_of_level (recs w) q.0 d) (and_from (is_of_level (recs w) l.0 d) (is_of_level (recs w) r.0 d) kl.of_level kr.of_level) kq.of_level;
      own = kq.own;
      rooted = root;
      low = and_from (ltb (height (recs w) l.0) o.0) _ (lt-ltb _ _ lows.left) (and_from (ltb (height (recs w) r.0) o.0) _ (lt-ltb _ _ lows.right) (and_from (ltb (height (recs w) q.0) o.0) true (lt-ltb _ _ lows.digit) refl));
    }

-- ---- two middles and the nodes between them, once the nodes and their digit stand

pub record BetweenFound (a b : World) (d more : ℕ) (l q r : Ref) (row : NodeRow) (es : Few) : Type 0 where
  pub left : IsTree b (suc d) more l.0
  pub right : IsTree b (suc d) more r.0
  pub nodes : ListWell a b d more (row_list row) (few_list es)
  pub digit : DigitWell b (suc d) q.0 es
  pub items : means (recs b) l.0 ++ means (recs b) q.0 ++ means (recs b) r.0 ≡ middle_items (means (recs a)) (top.between l.0 r.0 (row_list row))
  pub both : length (means (recs b) l.0) + length (flat_map (means (recs b)) (few_list es)) + length (means (recs b) r.0) ≡ length (middle_items (means (recs a)) (top.between l.0 r.0 (row_list row)))

tree_means : {a b : World} → IsLawful a → Grows a b → (d limit t : ℕ) → IsTree a d limit t → means (recs b) t ≡ means (recs a) t
tree_means {a} {b} law g d limit t k = let z = at_true is_tree_rec (recs a t) k.sort in sym (means_kept (recs a) (recs b) (lawful_names law) g.records t (z.0, z.1))

pub between_found : {a b : World} → IsLawful a → IsLawful b → Grows a b → (d limit more : ℕ) → limit ≤ more → (l q r : Ref) (row : NodeRow) (es : Few) → IsMiddle a d limit (top.between l.0 r.0 (row_list row)) → AllByRecursion (λ e. e < more) (few_list es) → IsRowAt b row es → IsDigitAt b q.0 es → BetweenFound a b d more l q r row es
between_found {a} {b} law law2 g d limit more high l q r row es k under row_at at =
    let n = row_well law law2 g d limit more high row es k.elements under row_at in
    let x = tree_means law g (suc d) limit l.0 k.trees.0 in
    let y = tree_means law g (suc d) limit r.0 k.trees.1.0 in
    let z = digit_shown law2 (suc d) more q.0 es n.each at in
    let all : means (recs b) l.0 ++ means (recs b) q.0 ++ means (recs b) r.0 ≡ middle_items (means (recs a)) (top.between l.0 r.0 (row_list row)) = rw (x, y, z.items, n.items) refl in
    record {
      left = tree_up law g (suc d) limit more l.0 high k.trees.0;
      right = tree_up law g (suc d) limit more r.0 high k.trees.1.0;
      nodes = n;
      digit = z;
      items = all;
      both = sym (split_length (means (recs b) l.0) (flat_map (means (recs b)) (few_list es)) (means (recs b) r.0)) ∙ ap length (rw z.items at all);
    }

pub between_is_middle : (u : World) (oo off : ℕ) (l q r : Ref) (row : NodeRow) (es : Few) (origin : Ref) (weight : Weight) → origin.0 ≡ oo → IsRowAt u row es → IsDigitAt u q.0 es → is_middle u oo off (top.between l.0 r.0 (row_list row)) (concat_record l q r origin off weight) ≡ true
between_is_middle u oo off l q r row es origin weight same row_at at =
    let shown : holds (recs u) q.0 (on_digit (are_nodes u (row_list row))) ≡ true = rw at.here (on_few (are_nodes u (row_list row)) es at.weight ∙ row_is u row es row_at) in
    and_from _ (eqb off off) (and_from _ (eqb oo origin.0) (and_from _ (holds (recs u) q.0 (on_digit (are_nodes u (row_list row)))) (and_from (same_place u l.0 l.0) (same_place u r.0 r.0) (place_self u l.0) (place_self u r.0)) shown) (eq-eqb oo origin.0 (sym same))) (eq-eqb off off refl)

-- ---- what the parts of the put ask

pub row_ask : {v : View} {run : Span} → (l : Ref) (row : NodeRow) (r : Ref) (family : Family) → BetweenAsk v run l row r family → PartAsk v run (row_places row) (all_of (row_list row))
row_ask {v} {run} l row r family k = record {
  depth = k.depth;
  elements = record {
    each = k.middle.elements;
    small = (let z = split_length (means (recs v.seen) l.0) (flat_map (means (recs v.seen)) (all_of (row_list row))) (means (recs v.seen) r.0) in omega (arith, z, k.middle.small));
  };
  held = k.held;
  room = omega (arith, k.room);
}

module _ {v b : View} {run y : Span} {l : Ref} {row : NodeRow} {r : Ref} {family : Family} {es : Few} (law : IsLawful v.seen) (law1 : IsLawful b.seen) (k : BetweenAsk v run l row r family) (p : RowPut v b run y row es) where
  pub row_here : ListWell v.seen b.seen k.depth y.next (row_list row) (few_list es)
  row_here = row_well law law1 p.laid.filled.grows k.depth run.next y.next (omega (arith, p.laid.next)) row es k.middle.elements p.under p.shown

  small_row : length (flat_map (means (recs b.seen)) (few_list es)) ≤ 2147483647
  small_row = let z = split_length (means (recs v.seen) l.0) (flat_map (means (recs v.seen)) (all_of (row_list row))) (means (recs v.seen) r.0) in let x = ap length row_here.items in omega (arith, z, x, k.middle.small)

  pub list_ask : PartAsk b y 1 (few_list es)
  list_ask = record { depth = suc k.depth; elements = record { each = row_here.each; small = small_row }; held = p.laid.held; room = omega (arith, p.laid.next, p.laid.end, k.room) }

-- ---- what is known once the nodes and their digit are put, and all is weighed

pub record Joined (v d : View) (run : Span) (p : ℕ) (l q r : Ref) (row : NodeRow) (es : Few) (size : ℕ) : Type 0 where
  pub law0 : IsLawful v.seen
  pub law : IsLawfulView d
  pub grows : Grows v.seen d.seen
  pub high : run.next ≤ p
  pub held : contains d.hand.reserved p ≡ true
  pub under : q.0 < p
  pub each_under : AllByRecursion (λ e. e < p) (few_list es)
  pub row_at : IsRowAt d.seen row es
  pub shown : IsDigitAt d.seen q.0 es
  pub counts : size ≡ length (middle_items (means (recs v.seen)) (top.between l.0 r.0 (row_list row)))
  pub unpassed : (s : Ref) → IsUnpassed s v.hand.claims → IsUnpassed s d.hand.claims
  pub credits : v.hand.credits ≤ d.hand.credits

-- both puts
pub record BothPut (v c : View) (run z : Span) (l q r : Ref) (row : NodeRow) (es : Few) : Type 0 where
  pub laid : Laid v c run z (row_places row + 1)
  pub under : q.0 < z.next
  pub each_under : AllByRecursion (λ e. e < z.next) (few_list es)
  pub row_at : IsRowAt c.seen row es
  pub shown : IsDigitAt c.seen q.0 es

pub both_put : {v b c : View} {run y z : Span} {row : NodeRow} {es : Few} → (l q r : Ref) → RowPut v b run y row es → DigitPut b c y z (digits.New es) q.0 → BothPut v c run z l q r row es
both_put {y = y} {z = z} {row = row} {es = es} l q r p d = record {
  laid = laid_trans p.laid d.laid;
  under = d.under;
  each_under = higher y.next z.next (few_list es) (omega (arith, d.laid.next)) p.under;
  row_at = row_later d.laid.filled.grows row es p.shown;
  shown = d.shown;
}

module _ {v c : View} {run z : Span} {l q r : Ref} {row : NodeRow} {es : Few} {family : Family} (law : IsLawful v.seen) (law1 : IsLawfulView c) (k : BetweenAsk v run l row r family) (p : BothPut v c run z l q r row es) where
  pub found_both : BetweenFound v.seen c.seen k.depth z.next l q r row es
  found_both = between_found law law1.world p.laid.filled.grows k.depth run.next z.next (omega (arith, p.laid.next)) l q r row es k.middle p.each_under p.row_at p.shown

  pub joined : {d : View} → IsLawfulView d → Quiet c d → (size : ℕ) → size ≡ length (means (recs c.seen) l.0) + length (flat_map (means (recs c.seen)) (few_list es)) + length (means (recs c.seen) r.0) → Joined v d run z.next l q r row es size
  joined {d} law2 quiet size s = record {
    law0 = law;
    law = law2;
    grows = grows_trans p.laid.filled.grows quiet.grows;
    high = omega (arith, p.laid.next);
    held = rw quiet.hand (p.laid.held.each z.next (omega arith) (omega (arith, p.laid.next, p.laid.end, k.room)));
    under = p.under;
    each_under = p.each_under;
    row_at = row_later quiet.grows row es p.row_at;
    shown = digit_grows quiet.grows q.0 es p.shown;
    counts = s ∙ found_both.both;
    unpassed = λ s h. unpassed_quiet quiet s (p.laid.unpassed s h);
    credits = (let e : d.hand.credits ≡ c.hand.credits = ap (λ (h : Hand). h.credits) quiet.hand in omega (arith, p.laid.credits, e));
  }

-- ---- the record fits

module _ {v d : View} {run : Span} {p : ℕ} {l q r : Ref} {row : NodeRow} {es : Few} {size : ℕ} (w : Joined v d run p l q r row es size) (family : Family) (k : BetweenAsk v run l row r family) where
  found_here : BetweenFound v.seen d.seen k.depth p l q r row es
  found_here = between_found w.law0 w.law.world w.grows k.depth run.next p w.high l q r row es k.middle w.each_under w.row_at w.shown

  low : p < 4194304
  low = place_fits w.law p w.held

  total : size ≡ length (means (recs d.seen) l.0 ++ means (recs d.seen) q.0 ++ means (recs d.seen) r.0)
  total = w.counts ∙ ap length (sym found_here.items)

  pub joined_spends : family ≡ First → (o : Ref) → o.0 ≡ p → (key : Item) (x : Rec) → x ≡ concat_record l q r o 0 (record { size = size; key = key }) → gain_at d.seen p x ≤ units_shown family (length (middle_items (means (recs v.seen)) (top.between l.0 r.0 (row_list row))))
  joined_spends first o same key x is =
      let weight : Weight = record { size = size; key = key } in
      let own : family_of p (concat_record l q r o 0 weight) ≡ (p, 0) = ap (λ (n : ℕ). (n, 0)) same in
      rw (first, is, ← w.counts) (first_gain d.seen p (concat_record l q r o 0 weight) size refl refl own)

  pub joined_first : family ≡ First → (o : Ref) → o.0 ≡ p → (key : Item) → key.0 < 18446744073709551616 → Fits d p (concat_record l q r o 0 (record { size = size; key = key }))
  joined_first first o same key kf =
      let weight : Weight = record { size = size; key = key } in
      let f = found_here in
      let own : family_of p (concat_record l q r o 0 weight) ≡ (p, 0) = ap (λ (n : ℕ). (n, 0)) same in
      let spends = joined_spends first o same key _ refl in
      let zl = at_true is_tree_rec (recs d.seen l.0) f.left.sort in
      let zr = at_true is_tree_rec (recs d.seen r.0) f.right.sort in
      fits_finger w.law p w.held (concat_record l q r o 0 weight) (suc k.depth)
      (concat_well (suc k.depth) p low l q r o 0 weight es f.left f.right f.digit w.under (omega (arith, same, low)) (omega arith) (omega (arith, w.counts, k.middle.small)) kf total
      (record { left = omega (arith, height_most w.law.world l.0 (zl.0, zl.1), f.left.under, same); digit = omega (arith, height_most w.law.world q.0 f.digit.there, w.under, same); right = omega (arith, height_most w.law.world r.0 (zr.0, zr.1), f.right.under, same) }) refl)
      own (omega (arith, spends, k.credits, w.credits))

  pub joined_later : (s o : Ref) (off : ℕ) → family ≡ Later s o off → (key : Item) → key.0 < 18446744073709551616 → LaterFits d p (concat_record l q r o (off + 1) (record { size = size; key = key })) off
  joined_later s o off same key kf =
      let weight : Weight = record { size = size; key = key } in
      let f = found_here in
      let m : IsLater v k.depth run.next s o.0 off (top.between l.0 r.0 (row_list row)) = rw same at k.follows in
      let here = w.grows.records s.0 m.rec m.here in
      let made = made_tree_up v.seen d.seen (lawful_names w.law0) w.grows s.0 m.rec m.here _ m.makes in
      let larger : size ≤ length (means (recs d.seen) s.0) = (let z = ap length (means_kept (recs v.seen) (recs d.seen) (lawful_names w.law0) w.grows.records s.0 (m.rec, m.here)) in omega (arith, w.counts, m.larger, z)) in
      let n = next_fits w.law.world s.0 o.0 off k.depth size m.rec _ here made m.family (later_up w.law0 w.law.world w.grows s.0 k.depth m.rec m.here m.own) larger in
      let off_few : off + 1 < 32 = (let few = depth_few in omega (arith, few, n.shallow)) in
      let z : off + 1 ≡ suc off = omega arith in
      let o_low = origin_low w.law.world s.0 o.0 off m.rec here m.family in
      let root : is_rooted (recs d.seen) p (concat_record l q r o (suc off) weight) ≡ true = rw f.digit.own (cond-false (eqb (suc off) 0) true _ (ne_eqb (suc off) 0 (λ x. omega (arith, x))) ∙ and_from (leb (suc off) (suc k.depth)) _ (le-leb (suc off) (suc k.depth) (omega (arith, n.shallow))) n.first) in
      rw z (record {
        fits = fits_later w.law p w.held (concat_record l q r o (suc off) weight) (suc k.depth) o.0 off
            (concat_well (suc k.depth) p low l q r o (suc off) weight es f.left f.right f.digit w.under (omega (arith, o_low, m.under, w.high, low)) (omega (arith, off_few)) (omega (arith, w.counts, k.middle.small)) kf total (lows o.0 m.low) root)
            refl (omega (arith, o_low, m.under, w.high))
            (makes_next d.seen d.hand.claims s o.0 off m.rec _ m.left m.right (top.between l.0 r.0 (row_list row)) (w.unpassed s m.newest) here m.family made (between_is_middle d.seen o.0 (suc off) l q r row es o weight refl w.row_at w.shown))
            (concat_free (recs d.seen) p l q r o off weight);
        few = off_few;
      })
    where
      depth_few : suc k.depth < 31
      depth_few =
          let e = first_of (suc k.depth) p es found_here.nodes.each in
          level_few w.law.world (suc k.depth) p e.0 e.1 (omega (arith, e.2, found_here.both, k.middle.small))

      up : (o t : ℕ) → IsTree v.seen (suc k.depth) run.next t → height (recs v.seen) t < o → height (recs d.seen) t < o
      up o t kt h = let x = at_true is_tree_rec (recs v.seen t) kt.sort in rw (height_kept (recs v.seen) (recs d.seen) (lawful_names w.law0) w.grows.records t (x.0, x.1)) at h

      lows : (o : ℕ) → AllByRecursion (λ e. height (recs v.seen) e < o) (all_of (row_list row) ++ l.0 ∷ r.0 ∷ []) → ConcatLow d.seen l q r o
      lows o h =
          let trees = all_right _ (all_of (row_list row)) (l.0 ∷ r.0 ∷ []) h in
          let hl = up o l.0 k.middle.trees.0 trees.0 in
          let nodes = found_here.nodes.low (o - 1) (shift v.seen o (all_of (row_list row)) (all_left _ (all_of (row_list row)) (l.0 ∷ r.0 ∷ []) h)) in
          let hq = digit_low w.law.world w.law.world (grows_refl d.seen) (suc k.depth) p q.0 (o - 1) es found_here.nodes.each nodes w.shown in
          record { left = hl; digit = omega (arith, hl, hq); right = up o r.0 k.middle.trees.1.0 trees.1.0 }

pub between_later_spends : (w : World) (p : ℕ) (family : Family) (n : ℕ) (l q r o : Ref) (off : ℕ) (weight : Weight) (x : Rec) → x ≡ concat_record l q r o (off + 1) weight → gain_at w p x ≤ units_shown family n
between_later_spends w p family n l q r o off weight x is =
    let z : off + 1 ≡ suc off = omega arith in
    rw is (free w p (concat_record l q r o (off + 1) weight) (units_shown family n) (rw z (concat_free (recs w) p l q r o off weight)))

-- ---- a suspended concatenation that was put

-- the next one of a claimed suspension
pub between_next : {n : World} → IsLawful n → (l q r : Ref) (row : NodeRow) (es : Few) → IsRowAt n row es → IsDigitAt n q.0 es → (s o : Ref) (off : ℕ) (family : Family) → family ≡ Later s o off → (p : ℕ) (weight : Weight) → recs n p ≡ Some (concat_record l q r o (off + 1) weight) → IsNext n family (top.between l.0 r.0 (row_list row)) p
between_next {n} law2 l q r row es row_at at s o off family same p weight here =
    let z : off + 1 ≡ suc off = omega arith in
    let e : recs n p ≡ Some (concat_record l q r o (suc off) weight) = rw z at here in
    rw same (rw e (between_is_middle n o.0 (suc off) l q r row es o weight refl row_at at), omega (arith, height_is law2 p _ e))

pub between_put : {v c d n : View} {run z e : Span} {l q r : Ref} {row : NodeRow} {es : Few} {family : Family} {size : ℕ} {x : Rec} → Joined v d run z.next l q r row es size → BetweenAsk v run l row r family → BothPut v c run z l q r row es → Quiet c d → Put d n z.next x → e ≡ record z { next = z.next + 1 } → IsLawful n.seen → (o : Ref) (off : ℕ) (w : Weight) → x ≡ concat_record l q r o off w
    → gain_at d.seen z.next x ≤ units_shown family (length (middle_items (means (recs v.seen)) (top.between l.0 r.0 (row_list row)))) → IsNext n.seen family (top.between l.0 r.0 (row_list row)) z.next → (p : ℕ) → p ≡ z.next → MiddlePut v n run e family (suc (suc (row_places row))) (top.between l.0 r.0 (row_list row)) p
between_put {v} {c} {d} {n} {run} {z} {e} {l} {q} {r} {row} {es} {family} {size} {x} w k bp quiet p after law2 o off weight same spends next place at =
    let m = further bp.laid quiet p after in
    let enext : e.next ≡ z.next + 1 = ap (λ (s : Span). s.next) after in
    let here : recs n.seen z.next ≡ Some (concat_record l q r o off weight) = p.here ∙ ap Some same in
    let g = grows_trans w.grows p.grows in
    let found : (j : ℕ) → IsMiddle v.seen j run.next (top.between l.0 r.0 (row_list row)) → BetweenFound v.seen n.seen j e.next l q r row es = λ j kj. between_found w.law0 law2 g j run.next e.next (omega (arith, w.high, enext)) l q r row es kj (higher z.next e.next (few_list es) (omega (arith, enext)) w.each_under) (row_later p.grows row es w.row_at) (digit_grows p.grows q.0 es w.shown) in
    rw at (record {
      filled = m.filled;
      next = omega (arith, m.next);
      end = m.end;
      held = m.held;
      tree = λ j kj. (let f = found j kj in record {
        under = omega (arith, enext);
        sort = rw here refl;
        of_level = level_is law2 z.next _ here (suc j) ∙ and_from _ (is_of_level (recs n.seen) q.0 (suc j)) (and_from (is_of_level (recs n.seen) l.0 (suc j)) (is_of_level (recs n.seen) r.0 (suc j)) f.left.of_level f.right.of_level) f.digit.of_level;
      });
      items = means_is (recs n.seen) (lawful_names law2) z.next _ here ∙ (found k.depth k.middle).items;
      made = next;
      credits = omega (arith, m.credits, spends);
    })

-- ---- what is weighed

pub there_later : {a b : World} → Grows a b → (test : Rec → Bool) (p : ℕ) → holds (recs a) p test ≡ true → holds (recs b) p test ≡ true
there_later {a} {b} g test p h = let z = at_true test (recs a p) h in rw (g.records p z.0 z.1) z.2

pub size_there : {a b : World} → IsLawful a → Grows a b → (t : ℕ) → holds (recs a) t is_tree_rec ≡ true → length (means (recs b) t) ≡ length (means (recs a) t)
size_there {a} {b} law g t h = let z = at_true is_tree_rec (recs a t) h in ap length (sym (means_kept (recs a) (recs b) (lawful_names law) g.records t (z.0, z.1)))

-- ---- its keys

-- the key of two lists and one between, from those that were weighed
pub between_key : (keyed : Bool) (xs ys zs : List ℕ) → max (max (key_in keyed xs) (key_in keyed ys)) (key_in keyed zs) ≡ key_in keyed (xs ++ ys ++ zs)
between_key keyed xs ys zs = let a = key_both keyed (xs ++ ys) zs in let b = key_both keyed xs ys in omega (arith, a, b)

pub weighed_key : {a b c : World} → IsLawful a → Grows a b → Grows a c → (keyed : Bool) (l r : ℕ) (es : List ℕ) (first list last : ℕ) → (AreKeyed keyed a es → list ≡ key_in keyed (flat_map (means (recs a)) es)) → (HasKeys keyed b l → first ≡ key_in keyed (means (recs b) l)) → (HasKeys keyed c r → last ≡ key_in keyed (means (recs c) r))
    → HasKeys keyed a l → AreKeyed keyed a es → HasKeys keyed a r → max (max first list) last ≡ key_in keyed (means (recs a) l ++ flat_map (means (recs a)) es ++ means (recs a) r)
weighed_key {a} law g h keyed l r es first list last ke kl kr hl hes hr =
    let x = kl (keyed_up law g keyed l hl) ∙ ap (key_in keyed) (keyed_item law g keyed l hl) in
    let y = ke hes in
    let z = kr (keyed_up law h keyed r hr) ∙ ap (key_in keyed) (keyed_item law h keyed r hr) in
    rw (x, y, z) (between_key keyed (means (recs a) l) (flat_map (means (recs a)) es) (means (recs a) r))

pub between_keyed : {v b c n : World} → IsLawful v → IsLawful b → IsLawful c → IsLawful n → Grows v b → Grows b c → Grows c n → (keyed : Bool) (l q r o : Ref) (row : NodeRow) (es : Few) (off : ℕ) (w : Weight) (p : ℕ) → IsDigitAt c q.0 es → recs n p ≡ Some (concat_record l q r o off w)
    → (AreKeyed keyed v (all_of (row_list row)) → AreKeyed keyed b (few_list es)) → (AreKeyed keyed b (few_list es) → HasKeys keyed c q.0) → (HasKeys keyed c l.0 → AreKeyed keyed c (few_list es) → HasKeys keyed c r.0 → w.key.0 ≡ key_in keyed (means (recs c) l.0 ++ flat_map (means (recs c)) (few_list es) ++ means (recs c) r.0))
    → HasKeys keyed v l.0 → AreKeyed keyed v (all_of (row_list row)) → HasKeys keyed v r.0 → HasKeys keyed n p
between_keyed {v} {b} {c} {n} law law1 law2 law3 g h j keyed l q r o row es off w p at e ke kq kw hl hrow hr =
    let l_c = keyed_up law (grows_trans g h) keyed l.0 hl in
    let r_c = keyed_up law (grows_trans g h) keyed r.0 hr in
    let es_b = ke hrow in
    let es_c = all_keyed_up law1 h keyed (few_list es) es_b in
    let q_c = kq es_b in
    let x = keyed_item law2 j keyed l.0 l_c in
    let y = keyed_item law2 j keyed r.0 r_c in
    let z = keyed_item law2 j keyed q.0 q_c ∙ digit_means law2 q.0 es at in
    let m : means (recs n) p ≡ means (recs c) l.0 ++ flat_map (means (recs c)) (few_list es) ++ means (recs c) r.0 = means_is (recs n) (lawful_names law3) p _ e ∙ rw (x, y, z) refl in
    keyed_from law3 keyed p _ e (eq-eqb w.key.0 _ (kw l_c es_c r_c ∙ ap (key_in keyed) (sym m))) (keyed_up law2 j keyed l.0 l_c, (keyed_up law2 j keyed r.0 r_c, (keyed_up law2 j keyed q.0 q_c, tt)))
