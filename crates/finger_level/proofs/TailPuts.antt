-- The places that are put of what is left of a tree: a suspended tail, and a tree with a shorter digit.
use Rattle.std.proofs.Common.{◌≡◌, ℕ, suc, ◌+◌, ◌<◌, ◌≤◌, refl, sym, ap, ◌∙◌, arith, max, Bool, true, Some, List, [], ◌∷◌, ◌++◌, length}
use Rattle.std.specs.Prelude.{flat_map}
use Rattle.std.specs.List.{AllByRecursion}
use Rattle.std.proofs.lemmas.Bool.{and_from, eq-eqb}
use Rattle.std.proofs.lemmas.List.{append-nil}
use Rattle.lazy_rec.specs.declared.places.Ref.{Ref}
use Rattle.lazy_rec.specs.declared.records.Rec.{Rec}
use Rattle.lazy_rec.specs.Named.{NamedPlace, named}
use Rattle.lazy_rec.specs.Meaning.{means}
use Rattle.heap_store.specs.Span.{Span}
use Rattle.heap_store.specs.World.{World, recs, same_place}
use Rattle.heap_store.specs.Completion as top
use Rattle.heap_store.specs.Completion.{elements, is_middle, is_digit}
use Rattle.heap_store.specs.Growth.{Grows}
use Rattle.heap_store.specs.Lawful.{IsLawful, key_of, is_of_level, height}
use Rattle.heap_store.specs.Hand.{Hand}
use Rattle.heap_store.specs.View.{View, IsLawfulView, Quiet, Put}
use Rattle.heap_store.specs.Budget.{gain_at}
use Rattle.heap_store.proofs.GrowthLaws.{at_true, grows_trans, grows_refl}
use Rattle.heap_store.proofs.LawfulLaws.{lawful_names}
use Rattle.heap_store.proofs.MeaningLaws.{means_is, means_kept}
use Rattle.heap_store.proofs.RecordLaws.{height_kept}
use Rattle.heap_store.proofs.Steps.{quiet_Filled, Quiet_refl}
use Rattle.finger_level.specs.declared.few.Few.{Few}
use Rattle.finger_level.specs.declared.few.Weight.{Weight}
use Rattle.finger_level.specs.declared.level.Digit.{Digit}
use Rattle.finger_level.specs.declared.level.Digit.TheVariants as digits
use Rattle.finger_level.specs.declared.level.Side.{Side}
use Rattle.finger_level.specs.declared.level.Side.TheVariants as sides
use Rattle.finger_level.specs.declared.level.Family.{Family}
use Rattle.finger_level.specs.declared.level.Family.TheVariants.{First, Later}
use Rattle.finger_level.specs.Few.{few_list}
use Rattle.finger_level.specs.Level.{without, digit_few, digit_list, digit_places, middle_nodes, middle_inner, middle_items}
use Rattle.finger_level.specs.Reads.{is_tree_rec, IsDigitAt}
use Rattle.finger_level.specs.Keyed.{HasKeys, AreKeyed, KeyedDigit, key_in}
use Rattle.finger_level.specs.Pushes.{beside}
use Rattle.finger_level.specs.Puts.{units_shown, IsElement, IsTree, IsMiddle, IsFamily, IsNext, MiddlePut, tail_record, TailAsk}
use Rattle.finger_level.proofs.Values.{level_is}
use Rattle.finger_level.proofs.Found.{digit_grows, digit_elements}
use Rattle.finger_level.proofs.Laying.{laid_none}
use Rattle.finger_level.proofs.Builds.{elements_up, tree_up, items_up}
use Rattle.finger_level.proofs.NodePuts.{all_left, all_right}
use Rattle.finger_level.proofs.Suspending.{place_self}
use Rattle.finger_level.proofs.Pushing.{further}
use Rattle.finger_level.proofs.Levels.{digit_low, there_up, weaken}
use Rattle.finger_level.proofs.Tails.{TailFound, tail_found, tail_height_is, tail_level, tail_means, tail_tree, tail_is_middle, without_items}
use Rattle.finger_level.specs.Level.{shorter}
use Rattle.finger_level.specs.Puts.{IsLevel, EndsAsk, EndsPut, ShorterAsk}
use Rattle.finger_level.proofs.Levels.{DeepParts, deep_parts, split_length}
use Rattle.finger_level.proofs.Values.{value_height}
use Rattle.heap_store.specs.Completion.{is_middle_at}
use Rattle.finger_level.proofs.Keying.{keyed_up, keyed_item, keyed_items, all_keyed_up, keyed_from, key_both}

-- ---- a suspended tail that was put

middle_at : (w : World) (o off : ℕ) (side : Side) (t : ℕ) (ds : List ℕ) (p : ℕ) (r : Rec) → recs w p ≡ Some r → is_middle w o off (without side t ds) r ≡ true → is_middle_at w o off (without side t ds) p ≡ true
middle_at w o off sides.Left t ds p r e h = rw e h
middle_at w o off sides.Right t ds p r e h = rw e h

-- the next one of a claimed suspension
pub tail_next : {v n : World} → IsLawful v → IsLawful n → Grows v n → (d limit : ℕ) (side : Side) (t q : Ref) (part : Digit) → IsMiddle v d limit (without side t.0 (digit_list part)) → IsDigitAt n q.0 (digit_few part) → (s o : Ref) (off : ℕ) (family : Family) → family ≡ Later s o off → (p : ℕ) (weight : Weight) → recs n p ≡ Some (tail_record side t q o (off + 1) weight) → IsNext n family (without side t.0 (digit_list part)) p
tail_next {v} {n} law law2 g d limit side t q part k at s o off family same p weight here =
    let z : off + 1 ≡ suc off = omega arith in
    let e : recs n p ≡ Some (tail_record side t q o (suc off) weight) = rw z at here in
    let f = tail_found law law2 g d limit limit (omega arith) side t q part k at in
    rw same (middle_at n o.0 (suc off) side t.0 (digit_list part) p _ e (tail_is_middle n o.0 (suc off) side t q part o weight refl f.digit.shown), omega (arith, tail_height_is law2 p side t q o (suc off) weight e))

pub tail_put : {v n : View} {run z : Span} {side : Side} {t q : Ref} {f : Few} {family : Family} {r : Rec} → IsLawfulView v → TailAsk v run side t (digits.Old q f) family → Put v n run.next r → z ≡ record run { next = run.next + 1 } → IsLawful n.seen → (o : Ref) (off : ℕ) (w : Weight) → r ≡ tail_record side t q o off w
    → gain_at v.seen run.next r ≤ units_shown family (length (middle_items (means (recs v.seen)) (without side t.0 (few_list f)))) → IsNext n.seen family (without side t.0 (few_list f)) run.next → (p : ℕ) → p ≡ run.next → MiddlePut v n run z family 1 (without side t.0 (elements v.seen q.0)) p
tail_put {v} {n} {run} {z} {side} {t} {q} {f} {family} {r} law k p e law2 o off weight same spends next place at =
    let m = further (laid_none k.held) (Quiet_refl v) p e in
    let znext : z.next ≡ run.next + 1 = ap (λ (s : Span). s.next) e in
    let here : recs n.seen run.next ≡ Some (tail_record side t q o off weight) = p.here ∙ ap Some same in
    let shown = digit_grows p.grows q.0 f k.there in
    let found : (j : ℕ) → IsMiddle v.seen j run.next (without side t.0 (few_list f)) → TailFound v.seen n.seen j z.next side t q (digits.Old q f) = λ j kj. tail_found law.world law2 p.grows j run.next z.next (omega (arith, znext)) side t q (digits.Old q f) kj shown in
    rw (at, digit_elements v.seen q.0 f k.there) (record {
      filled = m.filled;
      next = omega (arith, m.next);
      end = m.end;
      held = m.held;
      tree = λ j kj. (let d = found j kj in record {
        under = omega (arith, znext);
        sort = rw here (tail_tree side t q o off weight);
        of_level = level_is law2 run.next _ here (suc j) ∙ (tail_level (is_of_level (recs n.seen)) (suc j) side t q o off weight ∙ and_from (is_of_level (recs n.seen) t.0 (suc (suc j))) (is_of_level (recs n.seen) q.0 (suc j)) d.tree.of_level d.digit.well.of_level);
      });
      items = means_is (recs n.seen) (lawful_names law2) run.next _ here ∙ (tail_means (recs n.seen) (means (recs n.seen)) run.next side t q o off weight ∙ (found k.depth k.middle).items);
      made = next;
      credits = omega (arith, m.credits, spends);
    })

-- ---- its keys

pub part_keyed : (w : World) (keyed : Bool) (part : Digit) → KeyedDigit keyed w part → AreKeyed keyed w (few_list (digit_few part))
part_keyed w keyed (digits.Old p f) h = h.1
part_keyed w keyed (digits.New f) h = h

both_keys : (keyed : Bool) (side : Side) (xs ys : List ℕ) → max (key_in keyed ys) (key_in keyed xs) ≡ key_in keyed (beside side xs ys)
both_keys keyed sides.Left xs ys = let z = key_both keyed xs ys in omega (arith, z)
both_keys keyed sides.Right xs ys = sym (key_both keyed ys xs)

tail_names : (P : ℕ → Type 0) (side : Side) (t q o : Ref) (off : ℕ) (w : Weight) → P t.0 → P q.0 → AllByRecursion (λ (x : NamedPlace). P x.0) (named (tail_record side t q o off w))
tail_names P sides.Left t q o off w a b = (a, (b, tt))
tail_names P sides.Right t q o off w a b = (a, (b, tt))

tail_key : (side : Side) (t q o : Ref) (off : ℕ) (w : Weight) → key_of (tail_record side t q o off w) ≡ Some w.key.0
tail_key sides.Left t q o off w = refl
tail_key sides.Right t q o off w = refl

pub tail_keyed : {v n : World} → IsLawful v → IsLawful n → Grows v n → (keyed : Bool) (side : Side) (t q o : Ref) (off : ℕ) (w : Weight) (p : ℕ) → recs n p ≡ Some (tail_record side t q o off w) → HasKeys keyed v t.0 → HasKeys keyed v q.0 → w.key.0 ≡ key_in keyed (means (recs n) p) → HasKeys keyed n p
tail_keyed {v} {n} law law2 g keyed side t q o off w p e ht hq key = keyed_from law2 keyed p _ e (rw (tail_key side t q o off w) (eq-eqb w.key.0 _ key)) (tail_names (HasKeys keyed n) side t q o off w (keyed_up law g keyed t.0 ht) (keyed_up law g keyed q.0 hq))

-- the key of a tail, from those that were weighed
pub weighed_key : {v b c : World} → IsLawful v → Grows v b → Grows v c → (keyed : Bool) (side : Side) (t : Ref) (part : Digit) (near below key : ℕ) (made : List ℕ) → made ≡ middle_items (means (recs v)) (without side t.0 (digit_list part))
    → (AreKeyed keyed b (digit_list part) → near ≡ key_in keyed (flat_map (means (recs b)) (digit_list part))) → (HasKeys keyed c t.0 → below ≡ key_in keyed (means (recs c) t.0)) → key ≡ max near below
    → HasKeys keyed v t.0 → KeyedDigit keyed v part → key ≡ key_in keyed made
weighed_key {v} {b} {c} law g h keyed side t part near below key made items kn kb key_is ht hd =
    let l = part_keyed v keyed part hd in
    let x = kn (all_keyed_up law g keyed (digit_list part) l) ∙ ap (key_in keyed) (keyed_items law g keyed (digit_list part) l) in
    let y = kb (keyed_up law h keyed t.0 ht) ∙ ap (key_in keyed) (keyed_item law h keyed t.0 ht) in
    key_is ∙ (rw (x, y) (both_keys keyed side (means (recs v) t.0) (flat_map (means (recs v)) (digit_list part))) ∙ ap (key_in keyed) (sym (items ∙ without_items (means (recs v)) side t.0 (digit_list part))))

-- ---- a tree with a shorter digit

pub shorter_nodes : (side : Side) (l : List ℕ) (t : ℕ) (r : List ℕ) → middle_nodes (shorter side l t r) ≡ l ++ r
shorter_nodes sides.Left l t r = refl
shorter_nodes sides.Right l t r = refl

pub shorter_inner : (side : Side) (l : List ℕ) (t : ℕ) (r : List ℕ) → middle_inner (shorter side l t r) ≡ t ∷ []
shorter_inner sides.Left l t r = refl
shorter_inner sides.Right l t r = refl

pub shorter_items : (f : ℕ → List ℕ) (side : Side) (l : List ℕ) (t : ℕ) (r : List ℕ) → middle_items f (shorter side l t r) ≡ flat_map f l ++ f t ++ flat_map f r
shorter_items f sides.Left l t r = refl
shorter_items f sides.Right l t r = refl

-- it is a level further down
down : {v : World} (d limit : ℕ) (side : Side) (l : List ℕ) (t : ℕ) (r : List ℕ) → IsMiddle v d limit (shorter side l t r) → IsLevel v (suc d) limit (top.deep l (top.tree (Some t)) r)
down {v} d limit side l t r k = record {
  elements = rw (shorter_nodes side l t r) at k.nodes;
  trees = rw (shorter_inner side l t r) at k.inner;
  nodes = tt;
  inner = tt;
  small = (let z = ap length (shorter_items (means (recs v)) side l t r) in rw (append-nil (means (recs v) t)) (omega (arith, z, k.small)));
}

module _ {v : View} {run : Span} (law : IsLawful v.seen) (side : Side) (left : Digit) (t : Ref) (right : Digit) (family : Family) (k : ShorterAsk v run side left t right family) where
  level_here : IsLevel v.seen (suc k.depth) run.next (top.deep (digit_list left) (top.tree (Some t.0)) (digit_list right))
  level_here = down k.depth run.next side (digit_list left) t.0 (digit_list right) k.middle

  pub left_each : AllByRecursion (IsElement v.seen (suc k.depth) run.next) (digit_list left)
  left_each = all_left _ (digit_list left) (digit_list right) level_here.elements

  pub right_each : AllByRecursion (IsElement v.seen (suc k.depth) run.next) (digit_list right)
  right_each = all_right _ (digit_list left) (digit_list right) level_here.elements

  pub inner_tree : IsTree v.seen (suc (suc k.depth)) run.next t.0
  inner_tree = level_here.trees.0

  pub inner_same : {b : World} → Grows v.seen b → length (means (recs b) t.0) ≡ length (means (recs v.seen) t.0)
  inner_same {b} g = let z = at_true is_tree_rec (recs v.seen t.0) inner_tree.sort in ap length (sym (means_kept (recs v.seen) (recs b) (lawful_names law) g.records t.0 (z.0, z.1)))

  all_items : length (middle_items (means (recs v.seen)) (shorter side (digit_list left) t.0 (digit_list right))) ≡ length (flat_map (means (recs v.seen)) (digit_list left)) + length (means (recs v.seen) t.0) + length (flat_map (means (recs v.seen)) (digit_list right))
  all_items = ap length (shorter_items (means (recs v.seen)) side (digit_list left) t.0 (digit_list right)) ∙ split_length (flat_map (means (recs v.seen)) (digit_list left)) (means (recs v.seen) t.0) (flat_map (means (recs v.seen)) (digit_list right))

  pub all_small : length (flat_map (means (recs v.seen)) (digit_list left)) + length (means (recs v.seen) t.0) + length (flat_map (means (recs v.seen)) (digit_list right)) ≤ 2147483647
  all_small = omega (arith, all_items, k.middle.small)

  pub shorter_ask : {e : View} → Quiet v e → (size : ℕ) → size ≡ length (flat_map (means (recs v.seen)) (digit_list left)) + length (means (recs v.seen) t.0) + length (flat_map (means (recs v.seen)) (digit_list right)) → EndsAsk e run left t.0 right size
  shorter_ask {e} q size counts =
      let g = q.grows in
      let z = at_true is_tree_rec (recs v.seen t.0) inner_tree.sort in
      let same : means (recs v.seen) t.0 ≡ means (recs e.seen) t.0 = means_kept (recs v.seen) (recs e.seen) (lawful_names law) g.records t.0 (z.0, z.1) in
      let one = items_up law g (suc k.depth) run.next (digit_list left) left_each in
      let two = items_up law g (suc k.depth) run.next (digit_list right) right_each in
      record {
        depth = suc k.depth;
        first = elements_up law g (suc k.depth) run.next run.next (omega arith) (digit_list left) left_each;
        tree = tree_up law g (suc (suc k.depth)) run.next run.next t.0 (omega arith) inner_tree;
        last = elements_up law g (suc k.depth) run.next run.next (omega arith) (digit_list right) right_each;
        there = (there_up g left k.there.0, there_up g right k.there.1);
        under = k.under;
        counts = (rw (← one, ← two, ← same) (counts ∙ sym (split_length (flat_map (means (recs v.seen)) (digit_list left)) (means (recs v.seen) t.0) (flat_map (means (recs v.seen)) (digit_list right)))));
        small = omega (arith, counts, all_small);
        held = rw q.hand k.held;
        room = k.room;
      }

  pub shorter_put : {e n : View} {z : Span} {whole : Weight} {place : ℕ} → Quiet v e → IsLawful n.seen → EndsPut e n run z left t right whole place → MiddlePut v n run z family (suc (digit_places left + digit_places right)) (shorter side (digit_list left) t.0 (digit_list right)) place
  shorter_put {e} {n} {z} {whole} {place} q law2 p =
      let g = grows_trans q.grows p.laid.filled.grows in
      let high : run.next ≤ z.next = omega (arith, p.laid.next) in
      let parts : (j : ℕ) → IsMiddle v.seen j run.next (shorter side (digit_list left) t.0 (digit_list right)) → DeepParts v.seen n.seen (suc j) z.next p.first.0 t.0 p.last.0 (digit_few left) (top.tree (Some t.0)) (digit_few right) = λ j kj. (let d = down j run.next side (digit_list left) t.0 (digit_list right) kj in deep_parts law law law2 (grows_refl v.seen) g (suc j) run.next z.next p.first.0 t.0 p.last.0 high (digit_few left) (top.tree (Some t.0)) (digit_few right) d (tree_up law (grows_refl v.seen) (suc (suc j)) run.next z.next t.0 high d.trees.0) (sym (append-nil (means (recs v.seen) t.0))) p.first_shown p.last_shown) in
      let x0 = parts k.depth k.middle in
      let same : v.hand.credits ≡ e.hand.credits = ap (λ (h : Hand). h.credits) (sym q.hand) in
      record {
        filled = quiet_Filled q p.laid.filled;
        next = p.laid.next;
        end = p.laid.end;
        held = p.laid.held;
        tree = λ j kj. (let x = parts j kj in record {
          under = p.under;
          sort = rw p.here refl;
          of_level = level_is law2 place _ p.here (suc j) ∙ and_from _ (is_of_level (recs n.seen) p.last.0 (suc j)) (and_from (is_of_level (recs n.seen) p.first.0 (suc j)) (is_of_level (recs n.seen) t.0 (suc (suc j))) x.first.well.of_level x.below.of_level) x.last.well.of_level;
        });
        items = means_is (recs n.seen) (lawful_names law2) place _ p.here ∙ (x0.items ∙ (ap (λ xs. flat_map (means (recs v.seen)) (digit_list left) ++ xs ++ flat_map (means (recs v.seen)) (digit_list right)) (append-nil (means (recs v.seen) t.0)) ∙ sym (shorter_items (means (recs v.seen)) side (digit_list left) t.0 (digit_list right))));
        made = next family k.follows;
        credits = omega (arith, p.laid.credits, same);
      }
    where
      is_here : (o off : ℕ) (side : Side) → DeepParts v.seen n.seen (suc k.depth) z.next p.first.0 t.0 p.last.0 (digit_few left) (top.tree (Some t.0)) (digit_few right) → is_middle_at n.seen o off (shorter side (digit_list left) t.0 (digit_list right)) place ≡ true
      is_here o off sides.Left x = rw p.here (and_from _ (is_digit n.seen (digit_list right) p.last.0) (and_from (is_digit n.seen (digit_list left) p.first.0) (same_place n.seen t.0 t.0) x.first.shown (place_self n.seen t.0)) x.last.shown)
      is_here o off sides.Right x = rw p.here (and_from _ (is_digit n.seen (digit_list right) p.last.0) (and_from (is_digit n.seen (digit_list left) p.first.0) (same_place n.seen t.0 t.0) x.first.shown (place_self n.seen t.0)) x.last.shown)

      next : (f : Family) → IsFamily v k.depth run.next f (shorter side (digit_list left) t.0 (digit_list right)) → IsNext n.seen f (shorter side (digit_list left) t.0 (digit_list right)) place
      next First l = tt
      next (Later s o off) l =
          let g = grows_trans q.grows p.laid.filled.grows in
          let d = level_here in
          let x = deep_parts law law law2 (grows_refl v.seen) g (suc k.depth) run.next z.next p.first.0 t.0 p.last.0 (omega (arith, p.laid.next)) (digit_few left) (top.tree (Some t.0)) (digit_few right) d (tree_up law (grows_refl v.seen) (suc (suc k.depth)) run.next z.next t.0 (omega (arith, p.laid.next)) inner_tree) (sym (append-nil (means (recs v.seen) t.0))) p.first_shown p.last_shown in
          let names : AllByRecursion (λ e. height (recs v.seen) e < o.0) ((digit_list left ++ digit_list right) ++ t.0 ∷ []) = rw (shorter_nodes side (digit_list left) t.0 (digit_list right), shorter_inner side (digit_list left) t.0 (digit_list right)) at l.low_below in
          let both = all_left _ (digit_list left ++ digit_list right) (t.0 ∷ []) names in
          let y = at_true is_tree_rec (recs v.seen t.0) inner_tree.sort in
          let ht : height (recs n.seen) t.0 < o.0 = rw (height_kept (recs v.seen) (recs n.seen) (lawful_names law) g.records t.0 (y.0, y.1)) at (all_right _ (digit_list left ++ digit_list right) (t.0 ∷ []) names).0 in
          let hl = weaken v.seen o.0 (digit_list left) (all_left _ (digit_list left) (digit_list right) both) in
          let hr = weaken v.seen o.0 (digit_list right) (all_right _ (digit_list left) (digit_list right) both) in (
            is_here o.0 (suc off) side x,
            value_height law2 place o.0 _ p.here refl (digit_low law law2 g (suc k.depth) run.next p.first.0 o.0 (digit_few left) left_each hl p.first_shown, (omega (arith, ht), (digit_low law law2 g (suc k.depth) run.next p.last.0 o.0 (digit_few right) right_each hr p.last_shown, tt))),
          )

-- the key of a tree, from those that were weighed
three_keys : (keyed : Bool) (xs ys zs : List ℕ) → max (max (key_in keyed xs) (key_in keyed zs)) (key_in keyed ys) ≡ key_in keyed (xs ++ ys ++ zs)
three_keys keyed xs ys zs = let a = key_both keyed (xs ++ ys) zs in let b = key_both keyed xs ys in omega (arith, a, b)

pub shorter_key : {v b c : World} → IsLawful v → Grows v b → Grows v c → (keyed : Bool) (side : Side) (left : Digit) (t : Ref) (right : Digit) (first below last key : ℕ) (made : List ℕ) → made ≡ middle_items (means (recs v)) (shorter side (digit_list left) t.0 (digit_list right))
    → (AreKeyed keyed v (digit_list left) → first ≡ key_in keyed (flat_map (means (recs v)) (digit_list left))) → (HasKeys keyed b t.0 → below ≡ key_in keyed (means (recs b) t.0)) → (AreKeyed keyed c (digit_list right) → last ≡ key_in keyed (flat_map (means (recs c)) (digit_list right)))
    → key ≡ max (max first last) below → KeyedDigit keyed v left → HasKeys keyed v t.0 → KeyedDigit keyed v right → key ≡ key_in keyed made
shorter_key {v} {b} {c} law g h keyed side left t right first below last key made items kf kb kl key_is hl ht hr =
    let l = part_keyed v keyed left hl in
    let r = part_keyed v keyed right hr in
    let x = kf l in
    let y = kb (keyed_up law g keyed t.0 ht) ∙ ap (key_in keyed) (keyed_item law g keyed t.0 ht) in
    let z = kl (all_keyed_up law h keyed (digit_list right) r) ∙ ap (key_in keyed) (keyed_items law h keyed (digit_list right) r) in
    key_is ∙ (rw (x, y, z) (three_keys keyed (flat_map (means (recs v)) (digit_list left)) (means (recs v) t.0) (flat_map (means (recs v)) (digit_list right))) ∙ ap (key_in keyed) (sym (items ∙ shorter_items (means (recs v)) side (digit_list left) t.0 (digit_list right))))
