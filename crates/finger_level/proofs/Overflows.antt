-- Pushes of one element onto a full digit: three of its elements go into the middle as a node.
use Rattle.std.proofs.Common.{◌≡◌, ◌≤◌, ◌+◌, ℕ, refl, sym, ap, ◌∙◌, arith, max, cond, Bool, true, Option, Some, List, [], ◌∷◌, ◌++◌, length}
use Rattle.std.specs.Prelude.{flat_map}
use Rattle.std.specs.List.{AllByRecursion}
use Rattle.std.proofs.lemmas.List.{append-nil}
use Rattle.lazy_rec.specs.declared.places.Ref.{Ref}
use Rattle.lazy_rec.specs.declared.places.Item.{Item}
use Rattle.lazy_rec.specs.declared.records.Rec.TheVariants.{Deep}
use Rattle.lazy_rec.specs.Meaning.{means}
use Rattle.heap_store.specs.Span.{Span}
use Rattle.heap_store.specs.World.{World, recs, holds}
use Rattle.heap_store.specs.Completion as top
use Rattle.heap_store.specs.Lawful.{IsLawful}
use Rattle.heap_store.specs.View.{View, IsLawfulView, Quiet}
use Rattle.finger_level.specs.declared.few.Few.{Few}
use Rattle.finger_level.specs.declared.few.Group.{Group}
use Rattle.finger_level.specs.declared.few.Group.TheVariants as group
use Rattle.finger_level.specs.declared.few.Weight.{Weight}
use Rattle.finger_level.specs.declared.level.Digit.TheVariants as digits
use Rattle.finger_level.specs.declared.level.Middle.{Middle}
use Rattle.finger_level.specs.declared.level.Middle.TheVariants as middles
use Rattle.finger_level.specs.declared.level.Nodes.TheVariants as nodes
use Rattle.finger_level.specs.declared.level.Level.{Level}
use Rattle.finger_level.specs.declared.level.Level.TheVariants as levels
use Rattle.finger_level.specs.declared.level.Side.{Side}
use Rattle.finger_level.specs.declared.level.Side.TheVariants as sides
use Rattle.finger_level.specs.declared.level.Pushed.TheVariants as pushes
use Rattle.finger_level.specs.declared.level.Family.{Family}
use Rattle.finger_level.specs.declared.near_pushes.Overflow.{Overflow}
use Rattle.finger_level.specs.Few.{few_list, group_list}
use Rattle.finger_level.specs.Level.{middle_of, middle_places, middle_items, all_of}
use Rattle.finger_level.specs.Reads.{is_element, is_digit_rec, IsDigitAt, IsWeight}
use Rattle.finger_level.specs.Keyed.{HasKeys, AreKeyed, key_in}
use Rattle.finger_level.specs.Pushes.{push_all, beside, IsPushed}
use Rattle.finger_level.specs.Puts.{IsElement, PushAsk, push_middle, MiddleAsk, MiddlePut, LevelAsk, LevelPut}
use Rattle.finger_level.specs.Pops.{both_ends, level_by}
use Rattle.finger_level.specs.NearPuts.{NearAsk, NearPut}
use Rattle.finger_level.specs.NearPushes.{IsOverflow, PushedPut}
use Rattle.finger_level.proofs.Betweens.{there_later}
use Rattle.finger_level.proofs.Draws.{both_flat, deep_digits, end_keys}
use Rattle.finger_level.proofs.Found.{deep_read}
use Rattle.finger_level.proofs.Keying.{keyed_of, keyed_up, digit_keys, element_keyed}
use Rattle.finger_level.proofs.Levels.{split_length}
use Rattle.finger_level.proofs.NearDraws.{digit_back}
use Rattle.finger_level.proofs.NearPushes.{more_key, weight_up}
use Rattle.finger_level.proofs.NearPuts.{over_middle, over_ask, over_level}
use Rattle.finger_level.proofs.NodePuts.{all_left, all_right}
use Rattle.finger_level.proofs.Popping.{few_there}
use Rattle.finger_level.proofs.Pushing.{both_length}
use Rattle.finger_level.proofs.Rests.{pushed_from}
use Rattle.finger_level.proofs.Weighing.{sorts_of_elements}

-- ---- the level that is made

-- the suspended push of a node onto a middle that stands
abbrev pub push_of : Side → Ref → Group → Middle
push_of sides.Left middle node = middles.PushL (Some middle) (nodes.One node)
push_of sides.Right middle node = middles.PushR (Some middle) (nodes.One node)

abbrev pub full_level : Side → Overflow → Ref → Ref → Few → Level
full_level side over middle far other = level_by side over.kept (push_of side middle over.node) (digits.Old far other)

-- a deep tree, of which the digit on the side is full
pub record Full (w : World) (side : Side) (e : Ref) (q : ℕ) (left middle right : Ref) (ends : Ref × Ref) (f : Few) (over : Overflow) : Type 0 where
  pub size : ℕ
  pub key : Item
  pub here : recs w q ≡ Some (Deep left middle right size key)
  pub sides : ends ≡ both_ends side left right
  pub near_at : IsDigitAt w ends.0.0 f
  pub overflows : IsOverflow side e.0 f over

made_left : (e next : ℕ) (node : Group) (t : Option ℕ) (l r kept : List ℕ) → length (group_list node) ≡ 3 → l ≡ next ∷ group_list node → kept ≡ e ∷ next ∷ [] → top.deep kept (top.push_left t (group_list node ∷ [])) r ≡ push_all sides.Left (e ∷ []) (top.deep l (top.tree t) r)
made_left e next (group.Two a b) t l r kept n h k = absurd (omega (arith, n))
made_left e next (group.Three a b c) t l r kept n h k = rw (h, k) refl

made_right : (e next : ℕ) (node : Group) (t : Option ℕ) (l r kept : List ℕ) → length (group_list node) ≡ 3 → r ≡ group_list node ++ next ∷ [] → kept ≡ next ∷ e ∷ [] → top.deep l (top.push_right t (group_list node ∷ [])) kept ≡ push_all sides.Right (e ∷ []) (top.deep l (top.tree t) r)
made_right e next (group.Two a b) t l r kept n h k = absurd (omega (arith, n))
made_right e next (group.Three a b c) t l r kept n h k = rw (h, k) refl

-- the keys of the elements of a full digit
pub full_keyed : (w : World) (keyed : Bool) (side : Side) (e : ℕ) (f : Few) (over : Overflow) → IsOverflow side e f over → AreKeyed keyed w (few_list f) → HasKeys keyed w over.next.0 × AreKeyed keyed w (all_of (group_list over.node ∷ []))
full_keyed w keyed sides.Left e f over o h = let k : AreKeyed keyed w (over.next.0 ∷ group_list over.node) = rw o.full at h in (k.0, rw (append-nil (group_list over.node)) k.1)
full_keyed w keyed sides.Right e f over o h =
    let k : AreKeyed keyed w (group_list over.node ++ over.next.0 ∷ []) = rw o.full at h in
    ((all_right (HasKeys keyed w) (group_list over.node) (over.next.0 ∷ []) k).0, rw (append-nil (group_list over.node)) (all_left (HasKeys keyed w) (group_list over.node) (over.next.0 ∷ []) k))

kept_keyed : (w : World) (keyed : Bool) (side : Side) (e : ℕ) (f : Few) (over : Overflow) → IsOverflow side e f over → HasKeys keyed w e → HasKeys keyed w over.next.0 → AreKeyed keyed w (few_list over.kept)
kept_keyed w keyed sides.Left e f over o h k = rw o.kept (h, (k, tt))
kept_keyed w keyed sides.Right e f over o h k = rw o.kept (k, (h, tt))

-- the items of the two elements that it keeps
pub kept_items : (i : ℕ → List ℕ) (side : Side) (e : ℕ) (f : Few) (over : Overflow) → IsOverflow side e f over → flat_map i (few_list over.kept) ≡ beside side (i e) (i over.next.0)
kept_items i side e f over o = ap (flat_map i) o.kept ∙ (both_flat i side (e ∷ []) (over.next.0 ∷ []) ∙ (ap (λ xs. beside side xs (i over.next.0 ++ [])) (append-nil (i e)) ∙ ap (beside side (i e)) (append-nil (i over.next.0))))

-- its digit first
module _ {v : View} {run : Span} (over : Overflow) (middle far : Ref) (other : Few) (family : Family) (whole : Weight) where
  kept_elements : (side : Side) (k : LevelAsk v run (full_level side over middle far other) family whole) → AllByRecursion (IsElement v.seen k.depth run.next) (few_list over.kept)
  kept_elements sides.Left k = all_left (IsElement v.seen k.depth run.next) (few_list over.kept) _ k.parts.elements
  kept_elements sides.Right k = all_right (IsElement v.seen k.depth run.next) (all_of (group_list over.node ∷ [])) (few_list over.kept) (all_right (IsElement v.seen k.depth run.next) (few_list other) _ k.parts.elements)

  kept_small : (side : Side) → LevelAsk v run (full_level side over middle far other) family whole → length (flat_map (means (recs v.seen)) (few_list over.kept)) ≤ 2147483647
  kept_small sides.Left k =
      let i = means (recs v.seen) in
      let z = split_length (flat_map i (few_list over.kept)) (middle_items i (middle_of (push_of sides.Left middle over.node))) (flat_map i (few_list other)) in
      omega (arith, z, k.parts.small)
  kept_small sides.Right k =
      let i = means (recs v.seen) in
      let z = split_length (flat_map i (few_list other)) (middle_items i (middle_of (push_of sides.Right middle over.node))) (flat_map i (few_list over.kept)) in
      omega (arith, z, k.parts.small)

-- what the suspension asks, and what its put made, as of a middle
push_asked : {v : View} {run : Span} (side : Side) (middle : Ref) (node : Group) (family : Family) → MiddleAsk v run (push_of side middle node) family → PushAsk v run side (Some middle) (nodes.One node) family
push_asked sides.Left middle node family k = record { depth = k.depth; middle = k.middle; follows = k.follows; credits = k.credits; held = k.held; room = k.room }
push_asked sides.Right middle node family k = record { depth = k.depth; middle = k.middle; follows = k.follows; credits = k.credits; held = k.held; room = k.room }

middle_was_put : {v b : View} {run y : Span} (side : Side) (middle : Ref) (node : Group) (family : Family) (place : ℕ) → MiddlePut v b run y family 2 (push_middle side (Some middle) (nodes.One node)) place → MiddlePut v b run y family (middle_places (push_of side middle node)) (middle_of (push_of side middle node)) place
middle_was_put sides.Left middle node family place p = p
middle_was_put sides.Right middle node family place p = p

-- ---- over a lawful view

module _ {v : View} {run : Span} (law : IsLawfulView v) (side : Side) (e : Ref) (q : ℕ) (left middle right : Ref) (ends : Ref × Ref) (f : Few) (over : Overflow) (is : Full v.seen side e q left middle right ends f over) (family : Family) (whole : Weight) (ask : (level : Level) → IsPushed v.seen side (pushes.One e) q level → LevelAsk v run level family whole) where
  far_there : holds (recs v.seen) ends.1.0 is_digit_rec ≡ true
  far_there = (deep_digits law.world q left middle right is.size is.key is.here side ends.0 ends.1 is.sides).1

  pub full_pushed : (other : Few) → IsDigitAt v.seen ends.1.0 other → IsPushed v.seen side (pushes.One e) q (full_level side over middle ends.1 other)
  full_pushed other stands = by side (ap (λ (x : Ref × Ref). x.0) is.sides) (ap (λ (x : Ref × Ref). x.1) is.sides) is.overflows
    where
      by : (side : Side) → ends.0 ≡ (both_ends side left right).0 → ends.1 ≡ (both_ends side left right).1 → IsOverflow side e.0 f over → IsPushed v.seen side (pushes.One e) q (full_level side over middle ends.1 other)
      by sides.Left a c o =
          let read = deep_read law.world q left middle right is.size is.key f other is.here (rw a at is.near_at) (rw c at stands) in
          rw c (pushed_from sides.Left (pushes.One e) q (levels.Deep (digits.Old left f) (middles.Tree (Some middle)) (digits.Old right other)) (full_level sides.Left over middle right other) 0 read (made_left e.0 over.next.0 over.node (Some middle.0) (few_list f) (few_list other) (few_list over.kept) o.three o.full o.kept) refl refl (omega arith) (λ t. (tt, t.1, tt)) (λ m t. (tt, t.1, tt)) (λ j ks l. (let x = full_keyed v.seen j sides.Left e.0 f over o l.0.1 in (kept_keyed v.seen j sides.Left e.0 f over o ks.0 x.0, (x.1, l.1.1), l.2))))
      by sides.Right a c o =
          let read = deep_read law.world q left middle right is.size is.key other f is.here (rw c at stands) (rw a at is.near_at) in
          rw c (pushed_from sides.Right (pushes.One e) q (levels.Deep (digits.Old left other) (middles.Tree (Some middle)) (digits.Old right f)) (full_level sides.Right over middle left other) 0 read (made_right e.0 over.next.0 over.node (Some middle.0) (few_list other) (few_list f) (few_list over.kept) o.three o.full o.kept) refl refl (omega arith) (λ t. (t.0, tt, tt)) (λ m t. (t.0, tt, tt)) (λ j ks l. (let x = full_keyed v.seen j sides.Right e.0 f over o l.2.1 in (l.0, (x.1, l.1.1), kept_keyed v.seen j sides.Right e.0 f over o ks.0 x.0))))

  asked : (other : Few) → IsDigitAt v.seen ends.1.0 other → LevelAsk v run (full_level side over middle ends.1 other) family whole
  asked other stands = ask _ (full_pushed other stands)

  -- the element that it keeps
  pub next_there : holds (recs v.seen) over.next.0 is_element ≡ true
  next_there =
      let o = few_there law.world ends.1.0 far_there in
      let k = asked o.0 o.1 in
      one side is.overflows (sorts_of_elements law.world k.depth run.next (few_list over.kept) (kept_elements over middle ends.1 o.0 family whole side k))
    where
      one : (side : Side) → IsOverflow side e.0 f over → AllByRecursion (λ e. holds (recs v.seen) e is_element ≡ true) (few_list over.kept) → holds (recs v.seen) over.next.0 is_element ≡ true
      one sides.Left o h = (rw o.kept at h).1.0
      one sides.Right o h = (rw o.kept at h).0

  pub small : length (means (recs v.seen) over.next.0) + length (means (recs v.seen) e.0) ≤ 2147483647
  small =
      let i = means (recs v.seen) in
      let o = few_there law.world ends.1.0 far_there in
      let s = kept_small over middle ends.1 o.0 family whole side (asked o.0 o.1) in
      let z = ap length (kept_items i side e.0 f over is.overflows) ∙ both_length side (i e.0) (i over.next.0) in
      omega (arith, s, z)

  middle_asked : (other : Few) → IsDigitAt v.seen ends.1.0 other → MiddleAsk v run (push_of side middle over.node) family
  middle_asked other stands = over_middle law over.kept (push_of side middle over.node) ends.1 other family whole side (asked other stands)

  pub push_ask : PushAsk v run side (Some middle) (nodes.One over.node) family
  push_ask = let o = few_there law.world ends.1.0 far_there in push_asked side middle over.node family (middle_asked o.0 o.1)

  -- its weight and the new one's
  pub both_fit : (next own : Weight) → IsWeight v.seen over.next.0 next → IsWeight v.seen e.0 own → next.size + own.size ≤ 2147483647
  both_fit next own n o = omega (arith, small, n.size, o.size)

  module _ {b : View} {y : Span} (below : Ref) (put : MiddlePut v b run y family 2 (push_middle side (Some middle) (nodes.One over.node)) below.0) where
    stands : MiddlePut v b run y family (middle_places (push_of side middle over.node)) (middle_of (push_of side middle over.node)) below.0
    stands = middle_was_put side middle over.node family below.0 put

    pub near_ask : NearAsk b y side over.kept below ends.1 whole
    near_ask = let o = few_there law.world ends.1.0 far_there in record { other = o.0; ends = over_ask law over.kept (push_of side middle over.node) ends.1 o.0 family whole below stands side (asked o.0 o.1) }

    pub kept_counts : (next own : Weight) (size : ℕ) → IsWeight v.seen over.next.0 next → IsWeight v.seen e.0 own → holds (recs v.seen) e.0 is_element ≡ true → size ≡ next.size + own.size → size ≡ length (flat_map (means (recs b.seen)) (few_list over.kept))
    kept_counts next own size n o sort is_sum =
        let i = means (recs b.seen) in
        let n1 = (weight_up law.world put.filled.grows over.next.0 next next_there n).size in
        let o1 = (weight_up law.world put.filled.grows e.0 own sort o).size in
        let all = ap length (kept_items i side e.0 f over is.overflows) ∙ both_length side (i e.0) (i over.next.0) in
        omega (arith, is_sum, n1, o1, all)

    module _ {n : View} {z : Span} {place : ℕ} (law1 : IsLawful b.seen) (law2 : IsLawful n.seen) (p : NearPut b n y z side over.kept below ends.1 whole place) where
      pub far_at : IsDigitAt v.seen ends.1.0 p.other
      far_at = digit_back put.filled.grows ends.1.0 far_there p.other p.there

      pub level_put : LevelPut v n run z family (full_level side over middle ends.1 p.other) place
      level_put = over_level law over.kept (push_of side middle over.node) ends.1 p.other family whole below stands side (asked p.other far_at) law1 law2 p.ends

      pub pushed_put : {a : View} → Quiet a v → (keyed : Bool) (next own weight : Weight) → IsWeight v.seen over.next.0 next → IsWeight v.seen e.0 own → holds (recs v.seen) e.0 is_element ≡ true → weight.key.0 ≡ cond keyed (max next.key.0 own.key.0) 0
          → (AreKeyed keyed v.seen (all_of (group_list over.node ∷ [])) → AreKeyed keyed v.seen (middle.0 ∷ []) → HasKeys keyed b.seen below.0)
          → ((keyed : Bool) → AreKeyed keyed b.seen (few_list over.kept) → weight.key.0 ≡ key_in keyed (flat_map (means (recs b.seen)) (few_list over.kept)) → HasKeys keyed b.seen below.0 → HasKeys keyed b.seen ends.1.0 → whole.key.0 ≡ key_in keyed (means (recs n.seen) place) → HasKeys keyed n.seen place)
          → PushedPut a n run z side (pushes.One e) q family keyed whole place
      pushed_put quiet keyed next own weight nw ow sort key made1 made2 = record {
        then_view = v;
        quiet = quiet;
        law = law.world;
        level = full_level side over middle ends.1 p.other;
        pushed = full_pushed p.other far_at;
        put = level_put;
        keys = λ root pushed same. (
            let up = put.filled.grows in
            let i = means (recs b.seen) in
            let a = (keyed_of law.world keyed q _ is.here root).all in
            let k = end_keys v.seen keyed left right side ends.0 ends.1 is.sides a.0 a.1.1.0 in
            let x = full_keyed v.seen keyed side e.0 f over is.overflows (digit_keys law.world keyed ends.0.0 f is.near_at k.0) in
            let e_keys = keyed_up law.world up keyed e.0 pushed.0 in
            let next_keys = keyed_up law.world up keyed over.next.0 x.0 in
            let next_key = (weight_up law.world up over.next.0 next next_there nw).key in
            let own_key = (weight_up law.world up e.0 own sort ow).key in
            let both = more_key side keyed next.key.0 own.key.0 weight.key.0 (i e.0) (i over.next.0) key (λ j. next_key ∙ element_keyed law1 over.next.0 (there_later up is_element over.next.0 next_there) (rw j at next_keys)) (λ j. own_key ∙ element_keyed law1 e.0 (there_later up is_element e.0 sort) (rw j at e_keys)) in
            made2 keyed (kept_keyed b.seen keyed side e.0 f over is.overflows e_keys next_keys) (both ∙ ap (key_in keyed) (sym (kept_items i side e.0 f over is.overflows))) (made1 x.1 (a.1.0, tt)) (keyed_up law.world up keyed ends.1.0 k.1) (same ∙ ap (key_in keyed) (sym level_put.items)));
      }
