-- The level of two trees with a few elements between them.
use Rattle.std.proofs.Common.{◌≡◌, ℕ, ◌+◌, ◌≤◌, refl, sym, ap, ◌∙◌, arith, Bool, true, Option, Some, None, List, [], ◌∷◌, ◌++◌, length}
use Rattle.std.proofs.lemmas.Bool.{true≢false}
use Rattle.std.proofs.lemmas.List.{length-append}
use Rattle.lazy_rec.specs.declared.places.Ref.{Ref}
use Rattle.lazy_rec.specs.declared.records.Rec.{Rec}
use Rattle.lazy_rec.specs.declared.records.Rec.TheVariants.{TEmpty, Single, Deep}
use Rattle.heap_store.specs.World.{World, recs, holds}
use Rattle.heap_store.specs.Growth.{Grows}
use Rattle.heap_store.specs.Lawful.{IsLawful}
use Rattle.heap_store.specs.Completion as top
use Rattle.heap_store.specs.Completion.{Made, top_of_record, elements, grouped, joined_trees, push_all_left, push_all_right, push_one_left, push_one_right}
use Rattle.heap_store.proofs.Alls.{All-append}
use Rattle.heap_store.proofs.GrowthLaws.{at_true}
use Rattle.heap_store.proofs.LawfulLaws.{lawful_names}
use Rattle.heap_store.proofs.MadeLaws.{level_up}
use Rattle.heap_store.proofs.RecordLaws.{keys_kept}
use Rattle.finger_level.specs.declared.few.Few.{Few}
use Rattle.finger_level.specs.declared.level.Digit.{Digit}
use Rattle.finger_level.specs.declared.level.Digit.TheVariants as digits
use Rattle.finger_level.specs.declared.level.Nodes.{Nodes}
use Rattle.finger_level.specs.declared.level.Nodes.TheVariants as nodes
use Rattle.finger_level.specs.declared.level.NodeRow.{NodeRow}
use Rattle.finger_level.specs.declared.level.Middle.{Middle}
use Rattle.finger_level.specs.declared.level.Middle.TheVariants as middles
use Rattle.finger_level.specs.declared.level.Level.{Level}
use Rattle.finger_level.specs.declared.level.Level.TheVariants as levels
use Rattle.finger_level.specs.declared.level.Side.TheVariants as sides
use Rattle.finger_level.specs.Few.{few_list}
use Rattle.finger_level.specs.Level.{all_of, digit_few, digit_list, nodes_list, nodes_places, rest_of_row, rest_places, row_list, row_places, made_of, places_of, made_places, room_left, room_right}
use Rattle.finger_level.specs.Reads.{is_tree_value, is_at_rest, IsDigitAt, AreThere, LevelRead}
use Rattle.finger_level.specs.Keyed.{way, KeyedLevel}
use Rattle.finger_level.specs.Concat.{IsOnto, is_whole, is_whole_middle, tree_in, IsJoined, IsConcat}
use Rattle.finger_level.proofs.Found.{digit_elements}
use Rattle.finger_level.proofs.Levels.{there_up, under_level}
use Rattle.finger_level.proofs.NodePuts.{all_left, all_right}
use Rattle.finger_level.proofs.Keying.{keyed_up, digit_keyed_up, digit_keys}
use Rattle.finger_level.proofs.TailPuts.{part_keyed}
use Rattle.finger_level.proofs.Rests.{few_length, rest_kept, rest_room}

-- ---- pushes

pub left_more : {e : ℕ} {ys : List ℕ} {b m a : Level} → IsOnto sides.Left (e ∷ []) m a → IsOnto sides.Left ys b m → IsOnto sides.Left (e ∷ ys) b a
left_more {e} {ys} {b} {m} {a} x y = record {
  made = x.made ∙ ap (push_one_left e) y.made;
  kept = x.kept ∙ y.kept;
  places = x.places ∙ ap (λ k. made_places k (made_of a)) y.kept;
  more = omega (arith, x.more, y.more);
  most = x.most;
  stands = λ w h. x.stands w (y.stands w h);
  under = λ n h. x.under n (y.under n h);
  keyed = λ k w h l. x.keyed k w (h.0, tt) (y.keyed k w h.1 l);
}

pub right_more : {e : ℕ} {ys : List ℕ} {b m a : Level} → IsOnto sides.Right (e ∷ []) b m → IsOnto sides.Right ys m a → IsOnto sides.Right (e ∷ ys) b a
right_more {e} {ys} {b} {m} {a} x y = record {
  made = y.made ∙ ap (λ t. push_all_right t ys) x.made;
  kept = y.kept ∙ x.kept;
  places = y.places ∙ ap (λ k. made_places k (made_of a)) x.kept;
  more = omega (arith, x.more, y.more);
  most = y.most;
  stands = λ w h. y.stands w (x.stands w h);
  under = λ n h. y.under n (x.under n h);
  keyed = λ k w h l. y.keyed k w h.1 (x.keyed k w (h.0, tt) l);
}

last_right : (t : Made) (es : List ℕ) (e : ℕ) → push_all_right t (es ++ e ∷ []) ≡ push_one_right (push_all_right t es) e
last_right t [] e = refl
last_right t (x ∷ es) e = last_right (push_one_right t x) es e

pub right_last : {e : ℕ} {ys : List ℕ} {b m a : Level} → IsOnto sides.Right ys b m → IsOnto sides.Right (e ∷ []) m a → IsOnto sides.Right (ys ++ e ∷ []) b a
right_last {e} {ys} {b} {m} {a} y x = record {
  made = x.made ∙ (ap (λ t. push_one_right t e) y.made ∙ sym (last_right (made_of b) ys e));
  kept = x.kept ∙ y.kept;
  places = x.places ∙ ap (λ k. made_places k (made_of a)) y.kept;
  more = (let z = length-append ys (e ∷ []) in omega (arith, x.more, y.more, z));
  most = x.most;
  stands = λ w h. x.stands w (y.stands w h);
  under = λ n h. x.under n (y.under n h);
  keyed = λ k w h l. x.keyed k w (all_right _ ys (e ∷ []) h) (y.keyed k w (all_left _ ys (e ∷ []) h) l);
}

-- ---- a level as it is read

whole_rests : (l : Level) → is_whole l ≡ true → is_at_rest l ≡ true
whole_rests levels.Empty h = refl
whole_rests (levels.One e) h = refl
whole_rests (levels.Deep (digits.Old p f) (middles.Tree t) (digits.Old q g)) h = refl
whole_rests (levels.Deep (digits.Old p f) (middles.PushL t ns) (digits.Old q g)) h = absurd (true≢false (sym h))
whole_rests (levels.Deep (digits.Old p f) (middles.PushR t ns) (digits.Old q g)) h = absurd (true≢false (sym h))
whole_rests (levels.Deep (digits.Old p f) (middles.Tail s t d) (digits.Old q g)) h = absurd (true≢false (sym h))
whole_rests (levels.Deep (digits.Old p f) (middles.Shorter s l t r) (digits.Old q g)) h = absurd (true≢false (sym h))
whole_rests (levels.Deep (digits.Old p f) (middles.Between l n r) (digits.Old q g)) h = absurd (true≢false (sym h))
whole_rests (levels.Deep (digits.New f) m r) h = absurd (true≢false (sym h))
whole_rests (levels.Deep (digits.Old p f) m (digits.New g)) h = absurd (true≢false (sym h))

pub whole_room : (l : Level) → is_whole l ≡ true → (es : Few) → (length (few_list es) ≤ room_left l) × (length (few_list es) ≤ room_right l) × (length (few_list es) + 1 ≤ room_left l) × (length (few_list es) + 1 ≤ room_right l)
whole_room l h es =
    let r = rest_room l (whole_rests l h) in
    let n = few_length es in
    (omega (arith, r.0, n), omega (arith, r.1, n), omega (arith, r.0, n), omega (arith, r.1, n))

-- ---- an empty tree, or one element, on a side

pub onto_right : {left right level : Level} {es : Few} → left ≡ levels.Empty → is_whole right ≡ true → IsOnto sides.Left (few_list es) right level → IsJoined left es right level
onto_right {left} {right} {level} {es} same whole p = rw same (record {
  made = p.made;
  places = p.places ∙ ap (λ k. made_places k (made_of level)) (rest_kept right (whole_rests right whole)).1;
  most = omega (arith, p.most);
  there = λ w h k. p.stands w k;
  under = λ n h k. p.under n k;
  keyed = λ k w hl he hr. p.keyed k w he hr;
})

pub one_onto_right : {left right level : Level} {es : Few} → (a : Ref) → left ≡ levels.One a → (right ≡ levels.Empty → ⊥) → is_whole right ≡ true → IsOnto sides.Left (a.0 ∷ few_list es) right level → IsJoined left es right level
one_onto_right {left} {right} {level} {es} a same some whole p = rw same (record {
  made = p.made ∙ sym (by right some);
  places = p.places ∙ ap (λ k. made_places k (made_of level)) (rest_kept right (whole_rests right whole)).1;
  most = omega (arith, p.most);
  there = λ w h k. p.stands w k;
  under = λ n h k. p.under n k;
  keyed = λ k w hl he hr. p.keyed k w (hl, he) hr;
})
  where
    by : (r : Level) → (r ≡ levels.Empty → ⊥) → joined_trees (top.one a.0) (few_list es) (made_of r) ≡ push_all_left (a.0 ∷ few_list es) (made_of r)
    by levels.Empty some = absurd (some refl)
    by (levels.One b) some = refl
    by (levels.Deep l m r) some = refl

-- elements pushed onto a deep tree
old_onto : {level : Level} {xs : List ℕ} → (l r : Digit) (m : Middle) → is_whole (levels.Deep l m r) ≡ true → IsOnto sides.Right xs (levels.Deep l m r) level → places_of level ≡ made_places 0 (made_of level)
old_onto (digits.Old p f) r m whole o = o.places
old_onto (digits.New f) r m whole o = absurd (true≢false (sym whole))

pub onto_left : {left right level : Level} {es : Few} → (l r : Digit) (m : Middle) → left ≡ levels.Deep l m r → is_whole left ≡ true → right ≡ levels.Empty → IsOnto sides.Right (few_list es) (levels.Deep l m r) level → IsJoined left es right level
onto_left {left} {right} {level} {es} l r m same whole empty p = rw (same, empty) (record {
  made = p.made;
  places = old_onto l r m (rw same at whole) p;
  most = omega (arith, p.most);
  there = λ w h k. p.stands w h;
  under = λ n h k. p.under n h;
  keyed = λ k w hl he hr. p.keyed k w he hl;
})

pub onto_left_one : {left right level : Level} {es : Few} → (l r : Digit) (m : Middle) (b : Ref) → left ≡ levels.Deep l m r → is_whole left ≡ true → right ≡ levels.One b → IsOnto sides.Right (few_list es ++ b.0 ∷ []) (levels.Deep l m r) level → IsJoined left es right level
onto_left_one {left} {right} {level} {es} l r m b same whole one p = rw (same, one) (record {
  made = p.made;
  places = old_onto l r m (rw same at whole) p;
  most = omega (arith, p.most);
  there = λ w h k. p.stands w h;
  under = λ n h k. p.under n h;
  keyed = λ k w hl he hr. p.keyed k w (All-append _ (few_list es) (b.0 ∷ []) he (hr, tt)) hl;
})

-- ---- two deep trees

pub grouped_all : (xs : List ℕ) → all_of (grouped xs) ≡ xs
grouped_all [] = refl
grouped_all (a ∷ []) = refl
grouped_all (a ∷ b ∷ []) = refl
grouped_all (a ∷ b ∷ c ∷ []) = refl
grouped_all (a ∷ b ∷ c ∷ d ∷ []) = refl
grouped_all (a ∷ b ∷ c ∷ d ∷ e ∷ es) = ap (λ xs. a ∷ b ∷ c ∷ xs) (grouped_all (d ∷ e ∷ es))

nodes_count : (ns : Nodes) → length (nodes_list ns) ≡ nodes_places ns
nodes_count (nodes.One a) = refl
nodes_count (nodes.Two a b) = refl

nodes_few : (ns : Nodes) → nodes_places ns ≤ 2
nodes_few (nodes.One a) = omega arith
nodes_few (nodes.Two a b) = omega arith

row_count : (row : NodeRow) → (length (row_list row) ≡ row_places row) × (row_places row ≤ 4)
row_count row = (length-append (nodes_list row.near) (rest_of_row row.far) ∙ (ap (λ n. n + length (rest_of_row row.far)) (nodes_count row.near) ∙ by row.far), few row.far)
  where
    by : (o : Option Nodes) → nodes_places row.near + length (rest_of_row o) ≡ nodes_places row.near + rest_places o
    by None = refl
    by (Some ns) = ap (λ n. nodes_places row.near + n) (nodes_count ns)

    few : (o : Option Nodes) → nodes_places row.near + rest_places o ≤ 4
    few None = let a = nodes_few row.near in omega (arith, a)
    few (Some ns) = let a = nodes_few row.near in let b = nodes_few ns in omega (arith, a, b)

tree_is : (m : Middle) (t : Ref) → is_whole_middle m ≡ true → tree_in m ≡ Some t → m ≡ middles.Tree (Some t)
tree_is (middles.Tree (Some x)) t h e = ap middles.Tree e
tree_is (middles.Tree None) t h e = absurd (true≢false (sym h))
tree_is (middles.PushL a b) t h e = absurd (true≢false (sym h))
tree_is (middles.PushR a b) t h e = absurd (true≢false (sym h))
tree_is (middles.Tail a b c) t h e = absurd (true≢false (sym h))
tree_is (middles.Shorter a b c d) t h e = absurd (true≢false (sym h))
tree_is (middles.Between a b c) t h e = absurd (true≢false (sym h))

whole_middle : (l r : Digit) (m : Middle) → is_whole (levels.Deep l m r) ≡ true → is_whole_middle m ≡ true
whole_middle (digits.Old p f) (digits.Old q g) m h = h
whole_middle (digits.New f) r m h = absurd (true≢false (sym h))
whole_middle (digits.Old p f) (digits.New g) m h = absurd (true≢false (sym h))

both_whole : {es : Few} {row : NodeRow} {x y : Ref} → (l r l2 r2 : Digit) (m m2 : Middle) → is_whole (levels.Deep l m r) ≡ true → is_whole (levels.Deep l2 m2 r2) ≡ true → m ≡ middles.Tree (Some x) → m2 ≡ middles.Tree (Some y) → row_list row ≡ grouped (digit_list r ++ few_list es ++ digit_list l2) → IsJoined (levels.Deep l m r) es (levels.Deep l2 m2 r2) (levels.Deep l (middles.Between x row y) r2)
both_whole {es} {row} {x} {y} (digits.Old p f) r l2 (digits.Old q g) m m2 h k tx ty ls =
    let n = row_count row in
    let all : all_of (row_list row) ≡ digit_list r ++ few_list es ++ digit_list l2 = ap all_of ls ∙ grouped_all (digit_list r ++ few_list es ++ digit_list l2) in
    rw (tx, ty) (record {
      made = rw ls refl;
      places = (let z = n.0 in omega (arith, z));
      most = (let z = n.1 in omega (arith, z));
      there = λ w h g. (h.0, g.1, tt);
      under = λ j h g. (h.0, g.1, tt);
      keyed = λ j w hl he hr. (hl.0, (rw all (All-append _ (digit_list r ++ few_list es) (digit_list l2) (All-append _ (digit_list r) (few_list es) (part_keyed w j r hl.2) he) (part_keyed w j l2 hr.0)), (hl.1.1.0, (hr.1.1.0, tt))), hr.2);
    })
both_whole (digits.New f) r l2 r2 m m2 h k tx ty ls = absurd (true≢false (sym h))
both_whole (digits.Old p f) r (digits.Old q g) (digits.New o) m m2 h k tx ty ls = absurd (true≢false (sym k))
both_whole (digits.Old p f) r (digits.New g) (digits.New o) m m2 h k tx ty ls = absurd (true≢false (sym k))

pub both_deep : {left right : Level} {es first last : Few} {row : NodeRow} {x y : Ref} → (l r l2 r2 : Digit) (m m2 : Middle) → left ≡ levels.Deep l m r → is_whole left ≡ true → right ≡ levels.Deep l2 m2 r2 → is_whole right ≡ true → first ≡ digit_few r → last ≡ digit_few l2 → row_list row ≡ grouped (few_list first ++ few_list es ++ few_list last) → tree_in m ≡ Some x → tree_in m2 ≡ Some y → IsJoined left es right (levels.Deep l (middles.Between x row y) r2)
both_deep l r l2 r2 m m2 same whole same2 whole2 at_first at_last list tx ty =
    let h = rw same at whole in
    let k = rw same2 at whole2 in
    rw (same, same2) (both_whole l r l2 r2 m m2 h k (tree_is m _ (whole_middle l r m h) tx) (tree_is m2 _ (whole_middle l2 r2 m2 k) ty) (rw (at_first, at_last) at list))

-- ---- levels that were read, in a later world

-- the middle of a level that a record shows is a tree
pub read_whole : (w : World) (r : Rec) (l : Level) → top_of_record w r ≡ Some (made_of l) → is_at_rest l ≡ true → is_whole l ≡ true
read_whole w r levels.Empty h k = refl
read_whole w r (levels.One e) h k = refl
read_whole w r (levels.Deep (digits.Old p f) (middles.Tree (Some t)) (digits.Old q g)) h k = refl
read_whole w TEmpty (levels.Deep (digits.Old p f) (middles.Tree None) (digits.Old q g)) h k = cc
read_whole w (Single _ _ _) (levels.Deep (digits.Old p f) (middles.Tree None) (digits.Old q g)) h k = cc
read_whole w (Deep _ _ _ _ _) (levels.Deep (digits.Old p f) (middles.Tree None) (digits.Old q g)) h k = cc
read_whole w _ (levels.Deep (digits.Old p f) (middles.Tree None) (digits.Old q g)) h k = cc
read_whole w r (levels.Deep (digits.Old p f) (middles.PushL t ns) (digits.Old q g)) h k = absurd (true≢false (sym k))
read_whole w r (levels.Deep (digits.Old p f) (middles.PushR t ns) (digits.Old q g)) h k = absurd (true≢false (sym k))
read_whole w r (levels.Deep (digits.Old p f) (middles.Tail s t d) (digits.Old q g)) h k = absurd (true≢false (sym k))
read_whole w r (levels.Deep (digits.Old p f) (middles.Shorter s x t y) (digits.Old q g)) h k = absurd (true≢false (sym k))
read_whole w r (levels.Deep (digits.Old p f) (middles.Between x n y) (digits.Old q g)) h k = absurd (true≢false (sym k))
read_whole w r (levels.Deep (digits.New f) m d) h k = absurd (true≢false (sym k))
read_whole w r (levels.Deep (digits.Old p f) (middles.Tree None) (digits.New g)) h k = absurd (true≢false (sym k))
read_whole w r (levels.Deep (digits.Old p f) (middles.Tree (Some t)) (digits.New g)) h k = absurd (true≢false (sym k))
read_whole w r (levels.Deep (digits.Old p f) (middles.PushL t ns) (digits.New g)) h k = absurd (true≢false (sym k))
read_whole w r (levels.Deep (digits.Old p f) (middles.PushR t ns) (digits.New g)) h k = absurd (true≢false (sym k))
read_whole w r (levels.Deep (digits.Old p f) (middles.Tail s t d) (digits.New g)) h k = absurd (true≢false (sym k))
read_whole w r (levels.Deep (digits.Old p f) (middles.Shorter s x t y) (digits.New g)) h k = absurd (true≢false (sym k))
read_whole w r (levels.Deep (digits.Old p f) (middles.Between x n y) (digits.New g)) h k = absurd (true≢false (sym k))

pub is_read_whole : {w : World} → (q : ℕ) (l : Level) → holds (recs w) q is_tree_value ≡ true → LevelRead w q l → is_whole l ≡ true
is_read_whole {w} q l there k = let z = at_true is_tree_value (recs w q) there in read_whole w z.0 l (rw z.1 at k.made) k.rests

pub read_later : {a b : World} → IsLawful a → IsLawful b → Grows a b → (q : ℕ) (l : Level) → holds (recs a) q is_tree_value ≡ true → LevelRead a q l → LevelRead b q l
read_later {a} {b} law law2 g q l there k =
    let z = at_true is_tree_value (recs a q) there in
    let whole = is_read_whole q l there k in
    record {
      made = rw (g.records q z.0 z.1) (sym (level_up a b (lawful_names law) g q z.0 z.1) ∙ (rw z.1 at k.made));
      there = stands l whole k.there;
      rests = k.rests;
      under = k.under;
      keyed = λ j h. keyed j l whole (k.keyed j (keys_kept (recs a) (recs b) (lawful_names law) g.records (way j) q (z.0, z.1) ∙ h));
    }
  where
    stands : (l : Level) → is_whole l ≡ true → AreThere a l → AreThere b l
    stands levels.Empty w h = tt
    stands (levels.One e) w h = tt
    stands (levels.Deep l (middles.Tree t) r) w h = (there_up g l h.0, there_up g r h.1, tt)
    stands (levels.Deep (digits.Old p f) (middles.PushL t ns) (digits.Old q g)) w h = absurd (true≢false (sym w))
    stands (levels.Deep (digits.Old p f) (middles.PushR t ns) (digits.Old q g)) w h = absurd (true≢false (sym w))
    stands (levels.Deep (digits.Old p f) (middles.Tail s t d) (digits.Old q g)) w h = absurd (true≢false (sym w))
    stands (levels.Deep (digits.Old p f) (middles.Shorter s x t y) (digits.Old q g)) w h = absurd (true≢false (sym w))
    stands (levels.Deep (digits.Old p f) (middles.Between x n y) (digits.Old q g)) w h = absurd (true≢false (sym w))
    stands (levels.Deep (digits.New f) m r) w h = absurd (true≢false (sym w))
    stands (levels.Deep (digits.Old p f) m (digits.New g)) w h = absurd (true≢false (sym w))

    keyed : (j : Bool) (l : Level) → is_whole l ≡ true → KeyedLevel j a l → KeyedLevel j b l
    keyed j levels.Empty w h = tt
    keyed j (levels.One e) w h = keyed_up law g j e.0 h
    keyed j (levels.Deep l (middles.Tree (Some t)) r) w h = (digit_keyed_up law law2 g j l h.0, (tt, (keyed_up law g j t.0 h.1.1.0, tt)), digit_keyed_up law law2 g j r h.2)
    keyed j (levels.Deep (digits.Old p f) (middles.Tree None) (digits.Old q g)) w h = absurd (true≢false (sym w))
    keyed j (levels.Deep (digits.Old p f) (middles.PushL t ns) (digits.Old q g)) w h = absurd (true≢false (sym w))
    keyed j (levels.Deep (digits.Old p f) (middles.PushR t ns) (digits.Old q g)) w h = absurd (true≢false (sym w))
    keyed j (levels.Deep (digits.Old p f) (middles.Tail s t d) (digits.Old q g)) w h = absurd (true≢false (sym w))
    keyed j (levels.Deep (digits.Old p f) (middles.Shorter s x t y) (digits.Old q g)) w h = absurd (true≢false (sym w))
    keyed j (levels.Deep (digits.Old p f) (middles.Between x n y) (digits.Old q g)) w h = absurd (true≢false (sym w))
    keyed j (levels.Deep (digits.New f) m r) w h = absurd (true≢false (sym w))
    keyed j (levels.Deep (digits.Old p f) m (digits.New g)) w h = absurd (true≢false (sym w))

-- what both values and the digit between them make
pub concat_of : {w : World} → IsLawful w → (p d q : ℕ) (left right level : Level) (es : Few) → LevelRead w p left → LevelRead w q right → IsDigitAt w d es → IsJoined left es right level → IsConcat w p d q level
concat_of {w} law p d q left right level es lr rr at j = record {
  left = left;
  right = right;
  left_read = lr;
  right_read = rr;
  made = rw (digit_elements w d es at) j.made;
  places = j.places;
  most = j.most;
  there = j.there w lr.there rr.there;
  under = λ n a b. j.under n (under_level p n (omega (arith, a)) left lr.under) (under_level q n (omega (arith, b)) right rr.under);
  keyed = λ k hp hd hq. j.keyed k w (lr.keyed k hp) (digit_keys law k d es at hd) (rr.keyed k hq);
}
