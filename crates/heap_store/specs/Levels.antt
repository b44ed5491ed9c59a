-- The levels of a finger tree: what each record holds is of its level (Hinze and Paterson, 3).
use Rattle.std.specs.Prelude.{ℕ, zero, suc, eqb, leb, Bool, true, false, cond, ◌&&◌, Option, [], ◌∷◌, take, is_some}
use Rattle.std.specs.List.{list_all}
use Rattle.lazy_rec.specs.declared.records.Rec.{Rec}
use Rattle.lazy_rec.specs.declared.records.Rec.TheVariants.{TEmpty, Leaf, Node, Digit, Single, Deep, PushL, PushR, DeepL, DeepR, Concat}
use Rattle.lazy_rec.specs.Tests.{is_some_and, implies}
use Rattle.lazy_rec.specs.Named.{Records, is_pending}
use Rattle.lazy_rec.specs.Meaning.{by_record}
use Rattle.lazy_rec.specs.Units.{family_of}
use Rattle.heap_store.specs.World.{holds}
use Rattle.heap_store.specs.Sizes.{size_in}

abbrev pub if_any : ℕ → ℕ → ℕ
if_any zero l = 0
if_any (suc _) l = l

-- the level of a tree's record, read off its first element; of an empty tree 0
abbrev pub level_from : (ℕ → ℕ) → Rec → ℕ
level_from lower (Node count e1 _ _ _ _) = suc (if_any count (lower e1.0))
level_from lower (Digit count e1 _ _ _ _ _) = if_any count (lower e1.0)
level_from lower (Single elem _ _) = lower elem.0
level_from lower (Deep left _ _ _ _) = lower left.0
level_from lower (PushL count _ _ e1 _ _ _ _) = if_any count (lower e1.0)
level_from lower (PushR count _ _ e1 _ _ _ _) = if_any count (lower e1.0)
level_from lower (DeepL _ digit _ _ _ _) = lower digit.0
level_from lower (DeepR _ digit _ _ _ _) = lower digit.0
level_from lower (Concat _ _ _ list _ _ _) = lower list.0
level_from lower _ = 0

unfoldable pub level : Records → ℕ → ℕ
level = by_record 0 level_from

-- whether a record is of a level, from whether lower places are
abbrev pub level_of : (ℕ → ℕ → Bool) → Rec → ℕ → Bool
level_of lower (Leaf _) d = eqb d 0
level_of lower (Node count e1 e2 e3 _ _) zero = false
level_of lower (Node count e1 e2 e3 _ _) (suc d) = list_all (λ p. lower p d) (take count (e1.0 ∷ e2.0 ∷ e3.0 ∷ []))
level_of lower (Digit count e1 e2 e3 e4 _ _) d = list_all (λ p. lower p d) (take count (e1.0 ∷ e2.0 ∷ e3.0 ∷ e4.0 ∷ []))
level_of lower TEmpty d = true
level_of lower (Single elem _ _) d = lower elem.0 d
level_of lower (Deep left middle right _ _) d = lower left.0 d && lower middle.0 (suc d) && lower right.0 d
level_of lower (PushL count _ tree e1 e2 _ _ _) d = lower tree.0 d && list_all (λ p. lower p d) (take count (e1.0 ∷ e2.0 ∷ []))
level_of lower (PushR count _ tree e1 e2 _ _ _) d = lower tree.0 d && list_all (λ p. lower p d) (take count (e1.0 ∷ e2.0 ∷ []))
level_of lower (DeepL middle digit _ _ _ _) d = lower middle.0 (suc d) && lower digit.0 d
level_of lower (DeepR middle digit _ _ _ _) d = lower middle.0 (suc d) && lower digit.0 d
level_of lower (Concat _ left right list _ _ _) d = lower left.0 d && lower right.0 d && lower list.0 d
level_of lower _ d = false

unfoldable pub is_of_level : Records → ℕ → ℕ → Bool
is_of_level = by_record (λ _. false) level_of

-- the first suspension of a finger family, of at least a size
abbrev pub is_first_tree : ℕ → Option ℕ → Rec → Bool
is_first_tree origin size r = is_pending r && eqb (family_of origin r).0 origin && eqb (family_of origin r).1 0 && is_some_and (λ n. is_some_and (λ m. leb m n) size) (size_in r)

-- a later suspension is no shallower than its offset, and no larger than the first one of its family
abbrev pub is_rooted : Records → ℕ → Rec → Bool
is_rooted rs p r = let f = family_of p r in cond (eqb f.1 0) true (leb f.1 (level_from (level rs) r) && holds rs f.0 (is_first_tree f.0 (size_in r)))

-- what a record holds is of its level. (Its count is in its range.)
abbrev pub is_finger : Records → ℕ → Rec → Bool
is_finger rs p r = implies (is_some (size_in r)) (level_of (is_of_level rs) r (level_from (level rs) r) && is_rooted rs p r)
