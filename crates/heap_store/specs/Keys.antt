-- The keys that finger records keep, of a priority queue and of an ordered sequence (Hinze and Paterson, 4).
use Rattle.std.specs.Prelude.{ℕ, eqb, leb, max, Bool, true, false, ◌&&◌, Option, Some, None, List, [], ◌∷◌, fold}
use Rattle.std.specs.List.{list_all}
use Rattle.lazy_rec.specs.declared.records.Rec.{Rec}
use Rattle.lazy_rec.specs.declared.records.Rec.TheVariants.{Node, Digit, Single, Deep, PushL, PushR, DeepL, DeepR, Concat}
use Rattle.lazy_rec.specs.declared.events.Kind.{Kind}
use Rattle.lazy_rec.specs.declared.events.Kind.TheVariants as kinds
use Rattle.lazy_rec.specs.ByPlace.{by_place}
use Rattle.lazy_rec.specs.Named.{Records, named, at_record}
use Rattle.lazy_rec.specs.Meaning.{means}
use Rattle.lazy_rec.specs.Plain.{last_of}

-- the key that a finger record caches, if it has one
abbrev pub key_of : Rec → Option ℕ
key_of (Node _ _ _ _ _ key) = Some key.0
key_of (Digit _ _ _ _ _ _ key) = Some key.0
key_of (Single _ _ key) = Some key.0
key_of (Deep _ _ _ _ key) = Some key.0
key_of (PushL _ _ _ _ _ _ _ key) = Some key.0
key_of (PushR _ _ _ _ _ _ _ key) = Some key.0
key_of (DeepL _ _ _ _ _ key) = Some key.0
key_of (DeepR _ _ _ _ _ key) = Some key.0
key_of (Concat _ _ _ _ _ _ key) = Some key.0
key_of _ = None

-- the key of a list: of a priority queue the greatest item, of an ordered sequence the last
abbrev pub key_for : Kind → List ℕ → ℕ
key_for kinds.Prio xs = fold max 0 xs
key_for kinds.Ord xs = elim (last_of xs) [ None ↦ 0 | Some x ↦ x ]
key_for _ xs = 0

abbrev pub has_key : Kind → List ℕ → Option ℕ → Bool
has_key k xs None = true
has_key k xs (Some key) = eqb key (key_for k xs)

abbrev pub has_keys_at : Kind → Records → (ℕ → Bool) → ℕ → Rec → Bool
has_keys_at k rs lower p r = has_key k (means rs p) (key_of r) && list_all (λ q. lower q.0) (named r)

-- the keys of a place and of all that it reaches by named places are those of a kind
unfoldable pub has_keys : Kind → Records → ℕ → Bool
has_keys k rs = by_place false (λ lower p. at_record false (has_keys_at k rs lower p) (rs p))

abbrev pub is_rising : List ℕ → Bool
is_rising [] = true
is_rising (x ∷ []) = true
is_rising (x ∷ y ∷ ys) = leb x y && is_rising (y ∷ ys)

-- a place keeps the keys of a kind
abbrev pub keeps_keys : Kind → Records → ℕ → Bool
keeps_keys kinds.Seq rs p = has_keys kinds.Seq rs p
keeps_keys kinds.Prio rs p = has_keys kinds.Prio rs p
keeps_keys kinds.Ord rs p = has_keys kinds.Ord rs p && is_rising (means rs p)
keeps_keys _ rs p = true
