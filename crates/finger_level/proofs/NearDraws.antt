-- The put of the level that a middle's value and one digit make.
use Rattle.std.proofs.Common.{◌≡◌, ℕ, suc, ◌+◌, ◌-◌, ◌≤◌, refl, sym, ap, ◌∙◌, arith, Bool, true, false, Option, Some, None, List, [], ◌∷◌, length}
use Rattle.std.specs.Prelude.{flat_map}
use Rattle.std.proofs.lemmas.List.{append-nil}
use Rattle.lazy_rec.specs.declared.places.Ref.{Ref}
use Rattle.lazy_rec.specs.Meaning.{means}
use Rattle.heap_store.specs.Span.{Span}
use Rattle.heap_store.specs.World.{World, recs, holds}
use Rattle.heap_store.specs.Completion.{elements}
use Rattle.heap_store.specs.Growth.{Grows}
use Rattle.heap_store.specs.Lawful.{IsLawful}
use Rattle.heap_store.specs.View.{View, IsLawfulView, Quiet}
use Rattle.heap_store.proofs.GrowthLaws.{at_true}
use Rattle.heap_store.proofs.LawfulLaws.{lawful_names}
use Rattle.heap_store.proofs.MeaningLaws.{means_is, means_kept}
use Rattle.heap_store.proofs.Steps.{Quiet_refl, Quiet_trans}
use Rattle.finger_level.specs.declared.few.Few.{Few}
use Rattle.finger_level.specs.declared.few.Group.{Group}
use Rattle.finger_level.specs.declared.few.Group.TheVariants as group
use Rattle.finger_level.specs.declared.few.WeighedFew.{WeighedFew}
use Rattle.finger_level.specs.declared.few.Weight.{Weight}
use Rattle.finger_level.specs.declared.level.Digit.{Digit}
use Rattle.finger_level.specs.declared.level.Digit.TheVariants as digits
use Rattle.finger_level.specs.declared.level.Middle.{Middle}
use Rattle.finger_level.specs.declared.level.Middle.TheVariants as middles
use Rattle.finger_level.specs.declared.level.Family.{Family}
use Rattle.finger_level.specs.declared.level.Side.{Side}
use Rattle.finger_level.specs.declared.level.Side.TheVariants as sides
use Rattle.finger_level.specs.Few.{few_list, few_of_group, rest_list}
use Rattle.finger_level.specs.Level.{middle_of, middle_places, without}
use Rattle.finger_level.specs.Keyed.{HasKeys, AreKeyed, KeyedMiddle, KeyedLevel, key_in}
use Rattle.finger_level.specs.Reads.{is_digit_rec, IsDigitAt, IsNodeAt}
use Rattle.finger_level.specs.Pushes.{beside}
use Rattle.finger_level.specs.Puts.{TailAsk, WeighedTailAsk, ShorterAsk, EndsAsk, EndsPut, MiddleAsk, MiddlePut, LevelAsk, LevelPut}
use Rattle.finger_level.specs.Pops.{level_by, what_is_left, IsUpper, IsDrawn}
use Rattle.finger_level.specs.NearPuts.{near_digits, NearAsk, NearPut}
use Rattle.finger_level.specs.NearDraws.{IsWeighedNode, DrawnAsk, DrawnPut}
use Rattle.finger_level.proofs.Draws.{drawn_deep, middles_at, both_flat}
use Rattle.finger_level.proofs.Families.{tree_size}
use Rattle.finger_level.proofs.Keying.{keyed_up, all_keyed_up}
use Rattle.finger_level.proofs.Found.{digit_elements}
use Rattle.finger_level.proofs.NearPops.{other_few}
use Rattle.finger_level.proofs.NearPuts.{over_middle, over_ask, over_level}
use Rattle.finger_level.proofs.NodePuts.{node_grows}
use Rattle.finger_level.proofs.Popping.{Taking, few_there}
use Rattle.finger_level.proofs.Pushing.{both_length}
use Rattle.finger_level.proofs.Tails.{without_items}
use Rattle.finger_level.proofs.TailPuts.{shorter_ask, shorter_put}

-- ---- after reads

pub drawn_later : {v c : View} {run : Span} {side : Side} {q p : ℕ} {family : Family} {whole : Weight} → Quiet v c → DrawnAsk v run side q p family whole → DrawnAsk c run side q p family whole
drawn_later q k = λ d r law level n. k d (Quiet_trans q r) law level n

pub drawn_earlier : {v c n : View} {run z : Span} {side : Side} {q p : ℕ} {family : Family} {keyed : Bool} {whole : Weight} {place : ℕ} → Quiet v c → DrawnPut c n run z side q p family keyed whole place → DrawnPut v n run z side q p family keyed whole place
drawn_earlier q k = record {
  then_view = k.then_view;
  quiet = Quiet_trans q k.quiet;
  law = k.law;
  level = k.level;
  drawn = k.drawn;
  put = k.put;
  keys = k.keys;
}

-- a digit that an earlier world has
pub digit_back : {a b : World} → Grows a b → (p : ℕ) → holds (recs a) p is_digit_rec ≡ true → (f : Few) → IsDigitAt b p f → IsDigitAt a p f
digit_back {a} g p h f k = let t = at_true is_digit_rec (recs a p) h in record { weight = k.weight; here = t.1 ∙ (sym (g.records p t.0 t.1) ∙ k.here) }

pub weighed_up : {a b : World} → IsLawful a → Grows a b → (e : ℕ) (node : WeighedFew) → IsWeighedNode a e node → IsWeighedNode b e node
weighed_up {a} {b} law g e node k = record {
  group = k.group;
  few = k.few;
  shown = node_grows g k.group e k.shown;
  size = k.size ∙ ap length (means_kept (recs a) (recs b) (lawful_names law) g.records e (_, k.shown.here));
  bare = k.bare;
}

-- the items of a node
pub node_items : {w : World} → IsLawful w → (b : Group) (e : ℕ) → IsNodeAt w b e → means (recs w) e ≡ flat_map (means (recs w)) (few_list (few_of_group b))
node_items {w} law (group.Two x y) e k = means_is (recs w) (lawful_names law) e _ k.here
node_items {w} law (group.Three x y z) e k = means_is (recs w) (lawful_names law) e _ k.here

-- what it weighs, in a later world
pub weighed_few : {a b : World} → IsLawful a → IsLawful b → Grows a b → (e : ℕ) (node : WeighedFew) → IsWeighedNode a e node → node.weight.size ≡ length (flat_map (means (recs b)) (few_list node.few))
weighed_few {a} {b} law law2 g e node k =
    let n = weighed_up law g e node k in
    rw n.few (n.size ∙ ap length (node_items law2 n.group e n.shown))

-- ---- keys

-- a tree without keys has 0 for each
pub bare_key : (keyed : Bool) (key : ℕ) (xs : List ℕ) → keyed ≡ false → key ≡ 0 → key ≡ key_in keyed xs
bare_key true key xs h k = absurd (let z : true ≡ false = h in cc)
bare_key false key xs h k = k

record Kept (w : World) (keyed : Bool) (node : Few) (m : Middle) (p : Ref) : Type 0 where
  pub node_keys : AreKeyed keyed w (few_list node)
  pub middle_keys : KeyedMiddle keyed w m
  pub digit_keys : HasKeys keyed w p.0

kept : (w : World) (keyed : Bool) (side : Side) (node : Few) (m : Middle) (p : Ref) (f : Few) → KeyedLevel keyed w (level_by side node m (digits.Old p f)) → Kept w keyed node m p
kept w keyed sides.Left node m p f h = record { node_keys = h.0; middle_keys = h.1; digit_keys = h.2.0 }
kept w keyed sides.Right node m p f h = record { node_keys = h.2; middle_keys = h.1; digit_keys = h.0.0 }

shorter_kept : (w : World) (keyed : Bool) (side : Side) (rest : Few) (middle far : Ref) (g : Few) → KeyedMiddle keyed w (what_is_left side (Some rest) middle (digits.Old far g)) → AreKeyed keyed w (few_list rest) × (HasKeys keyed w middle.0 × HasKeys keyed w far.0)
shorter_kept w keyed sides.Left rest middle far g h = (h.0, (h.1, h.2.0))
shorter_kept w keyed sides.Right rest middle far g h = (h.2, (h.1, h.0.0))

tail_kept : (w : World) (keyed : Bool) (side : Side) (middle far : Ref) (g : Few) → KeyedMiddle keyed w (what_is_left side None middle (digits.Old far g)) → HasKeys keyed w middle.0 × HasKeys keyed w far.0
tail_kept w keyed sides.Left middle far g h = (h.0, h.1.0)
tail_kept w keyed sides.Right middle far g h = (h.0, h.1.0)

-- ---- what is left of the middle

-- what its put asks, of so many items: its other digit stands
pub record LeftAsk (v : View) (run : Span) (side : Side) (rest : Option Few) (middle far : Ref) (family : Family) (size : ℕ) : Type 0 where
  pub ask : (g : Few) → IsDigitAt v.seen far.0 g → MiddleAsk v run (what_is_left side rest middle (digits.Old far g)) family
  pub few : Few
  pub there : IsDigitAt v.seen far.0 few
  pub counts : size ≡ length (flat_map (means (recs v.seen)) (rest_list rest)) + length (means (recs v.seen) middle.0) + length (flat_map (means (recs v.seen)) (few_list few))

-- it was put
pub record LeftPut (old new : View) (before after : Span) (side : Side) (rest : Option Few) (middle far : Ref) (family : Family) (keyed : Bool) (place : ℕ) : Type 0 where
  pub few : Few
  pub there : IsDigitAt old.seen far.0 few
  pub put : MiddlePut old new before after family (middle_places (what_is_left side rest middle (digits.Old far few))) (middle_of (what_is_left side rest middle (digits.Old far few))) place
  pub keys : KeyedMiddle keyed old.seen (what_is_left side rest middle (digits.Old far few)) → HasKeys keyed new.seen place

-- ---- with a shorter digit

shorter_of : {v : View} {run : Span} {side : Side} {l r : Digit} {t : Ref} {family : Family} → MiddleAsk v run (middles.Shorter side l t r) family → ShorterAsk v run side l t r family
shorter_of k = record { depth = k.depth; middle = k.middle; follows = k.follows; there = k.there; under = k.under; held = k.held; room = k.room }

module _ {v : View} {run : Span} (law : IsLawfulView v) (rest : Few) (middle far : Ref) (family : Family) where
  less_ask : (side : Side) (g : Few) → MiddleAsk v run (what_is_left side (Some rest) middle (digits.Old far g)) family → (size : ℕ) → size ≡ length (flat_map (means (recs v.seen)) (few_list rest)) + length (means (recs v.seen) middle.0) + length (flat_map (means (recs v.seen)) (few_list g)) → EndsAsk v run (near_digits side rest far g).0 middle.0 (near_digits side rest far g).1 size
  less_ask sides.Left g k size counts = shorter_ask law.world sides.Left (digits.New rest) middle (digits.Old far g) family (shorter_of k) (Quiet_refl v) size counts
  less_ask sides.Right g k size counts = shorter_ask law.world sides.Right (digits.Old far g) middle (digits.New rest) family (shorter_of k) (Quiet_refl v) size (omega (arith, counts))

  less_put : (side : Side) (g : Few) → MiddleAsk v run (what_is_left side (Some rest) middle (digits.Old far g)) family → {n : View} {z : Span} {whole : Weight} {place : ℕ} → IsLawful n.seen → EndsPut v n run z (near_digits side rest far g).0 middle (near_digits side rest far g).1 whole place → MiddlePut v n run z family (middle_places (what_is_left side (Some rest) middle (digits.Old far g))) (middle_of (what_is_left side (Some rest) middle (digits.Old far g))) place
  less_put sides.Left g k law2 p = shorter_put law.world sides.Left (digits.New rest) middle (digits.Old far g) family (shorter_of k) (Quiet_refl v) law2 p
  less_put sides.Right g k law2 p = shorter_put law.world sides.Right (digits.Old far g) middle (digits.New rest) family (shorter_of k) (Quiet_refl v) law2 p

  module _ (side : Side) (inner : Weight) (k : LeftAsk v run side (Some rest) middle far family inner.size) where
    pub near_left_ask : NearAsk v run side rest middle far inner
    near_left_ask = record { other = k.few; ends = less_ask side k.few (k.ask k.few k.there) inner.size k.counts }

    pub near_left_put : {n : View} {z : Span} {place : ℕ} → IsLawful n.seen → NearPut v n run z side rest middle far inner place → (keyed : Bool) (less : Weight) → keyed ≡ false → less.key.0 ≡ 0 → inner.key.0 ≡ 0
        → ((keyed : Bool) → AreKeyed keyed v.seen (few_list rest) → less.key.0 ≡ key_in keyed (flat_map (means (recs v.seen)) (few_list rest)) → HasKeys keyed v.seen middle.0 → HasKeys keyed v.seen far.0 → inner.key.0 ≡ key_in keyed (means (recs n.seen) place) → HasKeys keyed n.seen place)
        → LeftPut v n run z side (Some rest) middle far family keyed place
    near_left_put law2 p keyed less bare l0 i0 made = record {
      few = p.other;
      there = p.there;
      put = less_put side p.other (k.ask p.other p.there) law2 p.ends;
      keys = λ h. (let parts = shorter_kept v.seen keyed side rest middle far p.other h in made keyed parts.0 (bare_key keyed less.key.0 _ bare l0) parts.1.0 parts.1.1 (bare_key keyed inner.key.0 _ bare i0));
    }

-- ---- with nothing of a digit

tail_of : {v : View} {run : Span} (side : Side) {t : Ref} {part : Digit} {family : Family} → MiddleAsk v run (what_is_left side None t part) family → TailAsk v run side t part family
tail_of sides.Left k = record { depth = k.depth; middle = k.middle; follows = k.follows; credits = k.credits; there = k.there; under = k.under; held = k.held; room = k.room }
tail_of sides.Right k = record { depth = k.depth; middle = k.middle; follows = k.follows; credits = k.credits; there = k.there; under = k.under; held = k.held; room = k.room }

tail_as : {v n : View} {run z : Span} {family : Family} {place : ℕ} (side : Side) (t far : Ref) (g : Few) → MiddlePut v n run z family 1 (without side t.0 (few_list g)) place → MiddlePut v n run z family (middle_places (what_is_left side None t (digits.Old far g))) (middle_of (what_is_left side None t (digits.Old far g))) place
tail_as sides.Left t far g p = p
tail_as sides.Right t far g p = p

module _ {v : View} {run : Span} (side : Side) (middle far : Ref) (family : Family) (inner : Weight) (k : LeftAsk v run side None middle far family inner.size) where
  pub tail_left_ask : WeighedTailAsk v run side middle far family inner.size
  tail_left_ask =
      let i = means (recs v.seen) in
      let items = ap length (without_items i side middle.0 (few_list k.few)) ∙ both_length side (i middle.0) (flat_map i (few_list k.few)) in
      record { few = k.few; tail = tail_of side (k.ask k.few k.there); counts = omega (arith, k.counts, items) }

  pub tail_left_put : {n : View} {z : Span} {place : ℕ} → MiddlePut v n run z family 1 (without side middle.0 (elements v.seen far.0)) place → (keyed : Bool) → keyed ≡ false → inner.key.0 ≡ 0
      → ((keyed : Bool) → HasKeys keyed v.seen middle.0 → HasKeys keyed v.seen far.0 → inner.key.0 ≡ key_in keyed (means (recs n.seen) place) → HasKeys keyed n.seen place)
      → LeftPut v n run z side None middle far family keyed place
  tail_left_put p keyed bare i0 made = record {
    few = k.few;
    there = k.there;
    put = tail_as side middle far k.few (rw (digit_elements v.seen far.0 k.few k.there) at p);
    keys = λ h. (let parts = tail_kept v.seen keyed side middle far k.few h in made keyed parts.0 parts.1 (bare_key keyed inner.key.0 _ bare i0));
  }

-- ---- what is weighed

pub record NodeTaken (w : World) (rest : Option Few) (size digit : ℕ) (node : ℕ) : Type 0 where
  pub from_digit : node ≤ digit
  pub from_tree : node ≤ size
  pub less : digit - node ≡ length (flat_map (means (recs w)) (rest_list rest))

module _ {w : World} (law : IsLawful w) (side : Side) (q : ℕ) (left middle right near far e : Ref) (rest : Option Few) (n : Few) (k : Taking w side q left middle right near far e rest n) (u : IsUpper w q) where
  own : length (flat_map (means (recs w)) (few_list n)) ≡ length (means (recs w) e.0) + length (flat_map (means (recs w)) (rest_list rest))
  own = let i = means (recs w) in ap (λ xs. length (flat_map i xs)) (sym k.taken) ∙ (ap length (both_flat i side (e.0 ∷ []) (rest_list rest)) ∙ (both_length side (flat_map i (e.0 ∷ [])) (flat_map i (rest_list rest)) ∙ ap (λ xs. length xs + length (flat_map i (rest_list rest))) (append-nil (i e.0))))

  total : (g : Few) → IsDigitAt w far.0 g → k.size ≡ length (means (recs w) e.0) + length (flat_map (means (recs w)) (rest_list rest)) + length (means (recs w) middle.0) + length (flat_map (means (recs w)) (few_list g))
  total g at =
      let i = means (recs w) in
      let m = middles_at law (suc u.depth) (suc q) q left middle right k.size k.key k.here (omega arith) u.of_level side near far k.ends n g k.near_at at in
      let all = ap length m.items ∙ both_length side (flat_map i (few_list n)) (beside side (i middle.0) (flat_map i (few_list g))) in
      let others = both_length side (i middle.0) (flat_map i (few_list g)) in
      let t = tree_size law q _ k.here refl in
      let o = own in
      omega (arith, all, others, t.counts, o)

  pub node_taken : (digit node : ℕ) → digit ≡ length (flat_map (means (recs w)) (few_list n)) → node ≡ length (means (recs w) e.0) → NodeTaken w rest k.size digit node
  node_taken digit node weighs same =
      let g = other_few law side q left middle right near far e rest n k in
      let t = total g.0 g.1 in
      let o = own in
      record { from_digit = omega (arith, weighs, same, o); from_tree = omega (arith, same, t); less = omega (arith, weighs, same, o) }

-- ---- what is put

module _ {a c : View} {run : Span} (law : IsLawfulView c) (side : Side) (q : ℕ) (left middle right near far e p : Ref) (b : Group) (rest : Option Few) (n : Few) (k : Taking c.seen side q left middle right near far e rest n) (node_at : IsNodeAt c.seen b e.0) (node : Few) (is : node ≡ few_of_group b) (digit : holds (recs c.seen) p.0 is_digit_rec ≡ true) (u : IsUpper c.seen q) (family : Family) (whole : Weight) (quiet : Quiet a c) (ask : DrawnAsk a run side q p.0 family whole) where
  is_drawn : (g f : Few) → IsDigitAt c.seen far.0 g → IsDigitAt c.seen p.0 f → IsDrawn c.seen side q p.0 (level_by side node (what_is_left side rest middle (digits.Old far g)) (digits.Old p f))
  is_drawn g f ga fa = rw is (drawn_deep law.world side q left middle right near far e p b rest n g f (record { size = k.size; key = k.key; here = k.here; ends = k.ends; near_at = k.near_at; far_at = ga; node_at = node_at; digit_at = fa; taken = k.taken }))

  asked : (g f : Few) → IsDigitAt c.seen far.0 g → IsDigitAt c.seen p.0 f → LevelAsk c run (level_by side node (what_is_left side rest middle (digits.Old far g)) (digits.Old p f)) family whole
  asked g f ga fa = ask c quiet law.world _ (is_drawn g f ga fa)

  pub left_ask : (inner size : ℕ) → size ≡ length (means (recs c.seen) e.0) → inner ≡ k.size - size → LeftAsk c run side rest middle far family inner
  left_ask inner size own less =
      let f = few_there law.world p.0 digit in
      let g = other_few law.world side q left middle right near far e rest n k in
      let t = total law.world side q left middle right near far e rest n k u g.0 g.1 in
      record {
        ask = λ g ga. over_middle law node (what_is_left side rest middle (digits.Old far g)) p f.0 family whole side (asked g f.0 ga f.1);
        few = g.0;
        there = g.1;
        counts = omega (arith, own, less, t);
      }

  module _ {d : View} {y : Span} {keyed : Bool} (below : Ref) (law1 : IsLawful d.seen) (p1 : LeftPut c d run y side rest middle far family keyed below.0) where
    pub near_over : NearAsk d y side node below p whole
    near_over = let f = few_there law.world p.0 digit in record { other = f.0; ends = over_ask law node (what_is_left side rest middle (digits.Old far p1.few)) p f.0 family whole below p1.put side (asked p1.few f.0 p1.there f.1) }

    module _ {m : View} {z : Span} {place : ℕ} (law2 : IsLawful m.seen) (p2 : NearPut d m y z side node below p whole place) where
      at_digit : IsDigitAt c.seen p.0 p2.other
      at_digit = digit_back p1.put.filled.grows p.0 digit p2.other p2.there

      level_put : LevelPut c m run z family (level_by side node (what_is_left side rest middle (digits.Old far p1.few)) (digits.Old p p2.other)) place
      level_put = over_level law node (what_is_left side rest middle (digits.Old far p1.few)) p p2.other family whole below p1.put side (asked p1.few p2.other p1.there at_digit) law1 law2 p2.ends

      pub drawn_put : (own : Weight) → keyed ≡ false → own.key.0 ≡ 0
          → ((keyed : Bool) → AreKeyed keyed d.seen (few_list node) → own.key.0 ≡ key_in keyed (flat_map (means (recs d.seen)) (few_list node)) → HasKeys keyed d.seen below.0 → HasKeys keyed d.seen p.0 → whole.key.0 ≡ key_in keyed (means (recs m.seen) place) → HasKeys keyed m.seen place)
          → DrawnPut a m run z side q p.0 family keyed whole place
      drawn_put own bare o0 made =
          let up = p1.put.filled.grows in
          record {
            then_view = c;
            quiet = quiet;
            law = law.world;
            level = level_by side node (what_is_left side rest middle (digits.Old far p1.few)) (digits.Old p p2.other);
            drawn = is_drawn p1.few p2.other p1.there at_digit;
            put = level_put;
            keys = λ h same. (
                let parts = kept c.seen keyed side node (what_is_left side rest middle (digits.Old far p1.few)) p p2.other h in
                made keyed (all_keyed_up law.world up keyed (few_list node) parts.node_keys) (bare_key keyed own.key.0 _ bare o0) (p1.keys parts.middle_keys) (keyed_up law.world up keyed p.0 parts.digit_keys) (same ∙ ap (key_in keyed) (sym level_put.items)));
          }
