-- Pushes of one element that read the digit at that end alone.
use Rattle.std.proofs.Common.{◌≡◌, ◌≤◌, ℕ, refl, sym, ap, ◌∙◌, arith, max, cond, Bool, true, false, Some, List, [], ◌∷◌, ◌++◌, length}
use Rattle.std.specs.Prelude.{flat_map}
use Rattle.std.proofs.lemmas.List.{append-nil}
use Rattle.lazy_rec.specs.declared.places.Ref.{Ref}
use Rattle.lazy_rec.specs.declared.places.Item.{Item}
use Rattle.lazy_rec.specs.declared.records.Rec.TheVariants.{Deep}
use Rattle.lazy_rec.specs.Named.{at_record}
use Rattle.lazy_rec.specs.Meaning.{means}
use Rattle.heap_store.specs.Span.{Span}
use Rattle.heap_store.specs.World.{World, recs, holds}
use Rattle.heap_store.specs.Completion as top
use Rattle.heap_store.specs.Completion.{Made, elements}
use Rattle.heap_store.specs.Growth.{Grows}
use Rattle.heap_store.specs.Lawful.{IsLawful}
use Rattle.heap_store.specs.View.{View, Quiet}
use Rattle.heap_store.proofs.Alls.{All-append}
use Rattle.heap_store.proofs.GrowthLaws.{at_true}
use Rattle.heap_store.proofs.LawfulLaws.{lawful_names}
use Rattle.heap_store.proofs.MeaningLaws.{means_kept}
use Rattle.heap_store.proofs.NameLaws.{IsPublished}
use Rattle.heap_store.proofs.RecordLaws.{keys_kept}
use Rattle.heap_store.proofs.Steps.{Quiet_trans}
use Rattle.finger_level.specs.declared.few.Few.{Few}
use Rattle.finger_level.specs.declared.few.Few.TheVariants as few
use Rattle.finger_level.specs.declared.few.Weight.{Weight}
use Rattle.finger_level.specs.declared.few.WeighedFew.{WeighedFew}
use Rattle.finger_level.specs.declared.level.Digit.TheVariants as digits
use Rattle.finger_level.specs.declared.level.Middle.TheVariants as middles
use Rattle.finger_level.specs.declared.level.Level.{Level}
use Rattle.finger_level.specs.declared.level.Level.TheVariants as levels
use Rattle.finger_level.specs.declared.level.Side.{Side}
use Rattle.finger_level.specs.declared.level.Side.TheVariants as sides
use Rattle.finger_level.specs.declared.level.Pushed.{Pushed}
use Rattle.finger_level.specs.declared.level.Pushed.TheVariants as pushes
use Rattle.finger_level.specs.declared.level.Family.{Family}
use Rattle.finger_level.specs.Few.{few_list}
use Rattle.finger_level.specs.Level.{middle_items}
use Rattle.finger_level.specs.Reads.{is_element, element_key, IsDigitAt, IsWeight, IsWeighedAt}
use Rattle.finger_level.specs.Keyed.{way, HasKeys, AreKeyed, key_in}
use Rattle.finger_level.specs.Pushes.{push_all, beside, IsPushed}
use Rattle.finger_level.specs.Puts.{LevelAsk}
use Rattle.finger_level.specs.Pops.{both_ends, level_by}
use Rattle.finger_level.specs.NearPushes.{PushedPut}
use Rattle.finger_level.proofs.Builds.{digit_means}
use Rattle.finger_level.proofs.Draws.{both_flat}
use Rattle.finger_level.proofs.Found.{digit_grows, deep_read}
use Rattle.finger_level.proofs.Keying.{key_both}
use Rattle.finger_level.proofs.Levels.{split_length}
use Rattle.finger_level.proofs.Rests.{few_length, pushed_from}

-- ---- a digit with one more element

pub more_keyed : (w : World) (keyed : Bool) (side : Side) (e : ℕ) (es more : List ℕ) → more ≡ beside side (e ∷ []) es → HasKeys keyed w e → AreKeyed keyed w es → AreKeyed keyed w more
more_keyed w keyed sides.Left e es more same h k = rw same (h, k)
more_keyed w keyed sides.Right e es more same h k = rw same (All-append (HasKeys keyed w) es (e ∷ []) k (h, tt))

pub more_items : (f : ℕ → List ℕ) (side : Side) (e : ℕ) (es more : List ℕ) → more ≡ beside side (e ∷ []) es → flat_map f more ≡ beside side (f e) (flat_map f es)
more_items f side e es more same = ap (flat_map f) same ∙ (both_flat f side (e ∷ []) es ∙ ap (λ xs. beside side xs (flat_map f es)) (append-nil (f e)))

-- what it weighs
pub more_key : (side : Side) (keyed : Bool) (one own key : ℕ) (xs ys : List ℕ) → key ≡ cond keyed (max one own) 0 → (keyed ≡ true → one ≡ key_in true ys) → (keyed ≡ true → own ≡ key_in true xs) → key ≡ key_in keyed (beside side xs ys)
more_key side false one own key xs ys is a b = is
more_key sides.Left true one own key xs ys is a b = let x = key_both true xs ys in let y = b refl in let z = a refl in omega (arith, is, z, y, x)
more_key sides.Right true one own key xs ys is a b = let x = key_both true ys xs in let y = b refl in let z = a refl in omega (arith, is, z, y, x)

-- ---- the level that is made

abbrev pub near_level : Side → Few → Ref → Ref → Few → Level
near_level side more middle far other = level_by side more (middles.Tree (Some middle)) (digits.Old far other)

pub near_pushed : {w : World} → IsLawful w → (side : Side) (e : Ref) (q : ℕ) (left middle right : Ref) (z : ℕ) (k : Item) → recs w q ≡ Some (Deep left middle right z k) → (ends : Ref × Ref) → ends ≡ both_ends side left right → (f more other : Few) → IsDigitAt w ends.0.0 f → few_list more ≡ beside side (e.0 ∷ []) (few_list f) → IsDigitAt w ends.1.0 other → IsPushed w side (pushes.One e) q (near_level side more middle ends.1 other)
near_pushed {w} law side e q left middle right z k here ends is f more other at same stands = by side (ap (λ (x : Ref × Ref). x.0) is) (ap (λ (x : Ref × Ref). x.1) is) same
  where
    long : (side : Side) (a b c d : Ref) → few_list more ≡ beside side (e.0 ∷ []) (a.0 ∷ b.0 ∷ c.0 ∷ d.0 ∷ []) → ⊥
    long sides.Left a b c d h = let z = few_length more in let y = ap length h in omega (arith, z, y)
    long sides.Right a b c d h = let z = few_length more in let y = ap length h in omega (arith, z, y)

    on_left : (f : Few) → few_list more ≡ e.0 ∷ few_list f → top.deep (few_list more) (top.tree (Some middle.0)) (few_list other) ≡ push_all sides.Left (e.0 ∷ []) (top.deep (few_list f) (top.tree (Some middle.0)) (few_list other))
    on_left (few.One a) h = rw h refl
    on_left (few.Two a b) h = rw h refl
    on_left (few.Three a b c) h = rw h refl
    on_left (few.Four a b c d) h = absurd (long sides.Left a b c d h)

    on_right : (f : Few) → few_list more ≡ few_list f ++ e.0 ∷ [] → top.deep (few_list other) (top.tree (Some middle.0)) (few_list more) ≡ push_all sides.Right (e.0 ∷ []) (top.deep (few_list other) (top.tree (Some middle.0)) (few_list f))
    on_right (few.One a) h = rw h refl
    on_right (few.Two a b) h = rw h refl
    on_right (few.Three a b c) h = rw h refl
    on_right (few.Four a b c d) h = absurd (long sides.Right a b c d h)

    by : (side : Side) → ends.0 ≡ (both_ends side left right).0 → ends.1 ≡ (both_ends side left right).1 → few_list more ≡ beside side (e.0 ∷ []) (few_list f) → IsPushed w side (pushes.One e) q (near_level side more middle ends.1 other)
    by sides.Left a c h =
        let read = deep_read law q left middle right z k f other here (rw a at at) (rw c at stands) in
        rw c (pushed_from sides.Left (pushes.One e) q (levels.Deep (digits.Old left f) (middles.Tree (Some middle)) (digits.Old right other)) (near_level sides.Left more middle right other) 0 read (on_left f h) refl refl (omega arith) (λ t. (tt, t.1, tt)) (λ m t. (tt, t.1, tt)) (λ j ks l. (more_keyed w j sides.Left e.0 (few_list f) (few_list more) h ks.0 l.0.1, l.1, l.2)))
    by sides.Right a c h =
        let read = deep_read law q left middle right z k other f here (rw c at stands) (rw a at at) in
        rw c (pushed_from sides.Right (pushes.One e) q (levels.Deep (digits.Old left other) (middles.Tree (Some middle)) (digits.Old right f)) (near_level sides.Right more middle left other) 0 read (on_right f h) refl refl (omega arith) (λ t. (t.0, tt, tt)) (λ m t. (t.0, tt, tt)) (λ j ks l. (l.0, l.1, more_keyed w j sides.Right e.0 (few_list f) (few_list more) h ks.0 l.2.1)))

-- the elements of its digit are few
pub near_small : {v : View} {run : Span} → (side : Side) (more : Few) (middle far : Ref) (other : Few) (family : Family) (whole : Weight) → LevelAsk v run (near_level side more middle far other) family whole → length (flat_map (means (recs v.seen)) (few_list more)) ≤ 2147483647
near_small {v} sides.Left more middle far other family whole k =
    let f = means (recs v.seen) in
    let z = split_length (flat_map f (few_list more)) (middle_items f (top.tree (Some middle.0))) (flat_map f (few_list other)) in
    omega (arith, z, k.parts.small)
near_small {v} sides.Right more middle far other family whole k =
    let f = means (recs v.seen) in
    let z = split_length (flat_map f (few_list other)) (middle_items f (top.tree (Some middle.0))) (flat_map f (few_list more)) in
    omega (arith, z, k.parts.small)

-- ---- after reads

pub pushed_back : {a b n : View} {run z : Span} {side : Side} {es : Pushed} {q : ℕ} {family : Family} {keyed : Bool} {whole : Weight} {place : ℕ} → Quiet a b → PushedPut b n run z side es q family keyed whole place → PushedPut a n run z side es q family keyed whole place
pushed_back q p = record { then_view = p.then_view; quiet = Quiet_trans q p.quiet; law = p.law; level = p.level; pushed = p.pushed; put = p.put; keys = p.keys }

-- what a digit and an element weigh
pub weighed_up : {a b : World} → IsLawful a → IsLawful b → Grows a b → (p : ℕ) (d : WeighedFew) → IsWeighedAt a p d → IsWeighedAt b p d
weighed_up {a} {b} law law2 g p d k =
    let there : IsPublished (recs a) p = (_, k.shown.here) in
    let up = digit_grows g p d.few k.shown in
    let items : flat_map (means (recs a)) (few_list d.few) ≡ flat_map (means (recs b)) (few_list d.few) = sym (digit_means law p d.few k.shown) ∙ (means_kept (recs a) (recs b) (lawful_names law) g.records p there ∙ digit_means law2 p d.few up) in
    record {
      shown = up;
      size = k.size ∙ ap length items;
      key = λ keyed h. k.key keyed (keys_kept (recs a) (recs b) (lawful_names law) g.records (way keyed) p there ∙ h) ∙ ap (key_in keyed) items;
    }

pub weight_up : {a b : World} → IsLawful a → Grows a b → (e : ℕ) (w : Weight) → holds (recs a) e is_element ≡ true → IsWeight a e w → IsWeight b e w
weight_up {a} {b} law g e w sort k =
    let t = at_true is_element (recs a e) sort in
    record { size = k.size ∙ ap length (means_kept (recs a) (recs b) (lawful_names law) g.records e (t.0, t.1)); key = k.key ∙ ap (at_record 0 element_key) (t.1 ∙ sym (g.records e t.0 t.1)) }
