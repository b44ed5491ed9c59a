-- Levels as they are read.
use Rattle.std.proofs.Common.{◌≡◌, ◌≤◌, sym, refl, arith, ℕ, Bool, true, length}
use Rattle.std.proofs.lemmas.Bool.{true≢false}
use Rattle.heap_store.specs.World.{World}
use Rattle.finger_level.specs.declared.few.Few.{Few}
use Rattle.finger_level.specs.declared.few.Few.TheVariants as few
use Rattle.finger_level.specs.Few.{few_list}
use Rattle.finger_level.specs.declared.level.Digit.{Digit}
use Rattle.finger_level.specs.declared.level.Digit.TheVariants as digits
use Rattle.finger_level.specs.declared.level.Middle.{Middle}
use Rattle.finger_level.specs.declared.level.Middle.TheVariants as middles
use Rattle.finger_level.specs.declared.level.Level.{Level}
use Rattle.finger_level.specs.declared.level.Level.TheVariants as levels
use Rattle.finger_level.specs.declared.level.Side.{Side}
use Rattle.finger_level.specs.declared.level.Pushed.{Pushed}
use Rattle.finger_level.specs.Level.{made_of, kept_left, kept_right, kept_of, made_places, places_of, digit_few, middle_room_left, middle_room_right, room_left, room_right}
use Rattle.finger_level.specs.Keyed.{AreKeyed, KeyedLevel}
use Rattle.finger_level.specs.Reads.{AreUnder, is_at_rest, is_tree_middle, AreThere, LevelRead}
use Rattle.finger_level.specs.Pushes.{IsPushed, pushed_list, push_all}

pub rest_middle : (l r : Digit) (m : Middle) → is_at_rest (levels.Deep l m r) ≡ true → is_tree_middle m ≡ true
rest_middle (digits.Old _ _) (digits.Old _ _) (middles.Tree t) h = refl
rest_middle (digits.Old _ _) (digits.Old _ _) (middles.PushL _ _) h = absurd (true≢false (sym h))
rest_middle (digits.Old _ _) (digits.Old _ _) (middles.PushR _ _) h = absurd (true≢false (sym h))
rest_middle (digits.Old _ _) (digits.Old _ _) (middles.Tail _ _ _) h = absurd (true≢false (sym h))
rest_middle (digits.Old _ _) (digits.Old _ _) (middles.Shorter _ _ _ _) h = absurd (true≢false (sym h))
rest_middle (digits.Old _ _) (digits.Old _ _) (middles.Between _ _ _) h = absurd (true≢false (sym h))
rest_middle (digits.New _) r m h = absurd (true≢false (sym h))
rest_middle (digits.Old _ _) (digits.New _) (middles.Tree t) h = absurd (true≢false (sym h))
rest_middle (digits.Old _ _) (digits.New _) (middles.PushL _ _) h = absurd (true≢false (sym h))
rest_middle (digits.Old _ _) (digits.New _) (middles.PushR _ _) h = absurd (true≢false (sym h))
rest_middle (digits.Old _ _) (digits.New _) (middles.Tail _ _ _) h = absurd (true≢false (sym h))
rest_middle (digits.Old _ _) (digits.New _) (middles.Shorter _ _ _ _) h = absurd (true≢false (sym h))
rest_middle (digits.Old _ _) (digits.New _) (middles.Between _ _ _) h = absurd (true≢false (sym h))

-- a level that is read takes six elements at each end
pub few_length : (f : Few) → length (few_list f) ≤ 4
few_length (few.One a) = omega arith
few_length (few.Two a b) = omega arith
few_length (few.Three a b c) = omega arith
few_length (few.Four a b c d) = omega arith

tree_room : (m : Middle) → is_tree_middle m ≡ true → (middle_room_left m ≡ 10) × (middle_room_right m ≡ 10)
tree_room (middles.Tree t) h = (refl, refl)
tree_room _ h = absurd (true≢false (sym h))

pub rest_room : (l : Level) → is_at_rest l ≡ true → (6 ≤ room_left l) × (6 ≤ room_right l)
rest_room levels.Empty h = (omega arith, omega arith)
rest_room (levels.One e) h = (omega arith, omega arith)
rest_room (levels.Deep l m r) h =
    let k = tree_room m (rest_middle l r m h) in
    let a = few_length (digit_few l) in
    let b = few_length (digit_few r) in
    (omega (arith, k.0, a), omega (arith, k.1, b))

pub rest_kept : (l : Level) → is_at_rest l ≡ true → (kept_left l ≡ kept_of (made_of l)) × (kept_right l ≡ kept_of (made_of l))
rest_kept levels.Empty h = (refl, refl)
rest_kept (levels.One e) h = (refl, refl)
rest_kept (levels.Deep (digits.Old _ _) m (digits.Old _ _)) h = (refl, refl)
rest_kept (levels.Deep (digits.New _) m r) h = absurd (true≢false (sym h))
rest_kept (levels.Deep (digits.Old _ _) (middles.Tree _) (digits.New _)) h = absurd (true≢false (sym h))
rest_kept (levels.Deep (digits.Old _ _) (middles.PushL _ _) (digits.New _)) h = absurd (true≢false (sym h))
rest_kept (levels.Deep (digits.Old _ _) (middles.PushR _ _) (digits.New _)) h = absurd (true≢false (sym h))
rest_kept (levels.Deep (digits.Old _ _) (middles.Tail _ _ _) (digits.New _)) h = absurd (true≢false (sym h))
rest_kept (levels.Deep (digits.Old _ _) (middles.Shorter _ _ _ _) (digits.New _)) h = absurd (true≢false (sym h))
rest_kept (levels.Deep (digits.Old _ _) (middles.Between _ _ _) (digits.New _)) h = absurd (true≢false (sym h))

pub pushed_from : {w : World} (side : Side) (es : Pushed) (q : ℕ) (before level : Level) (kept : ℕ) → LevelRead w q before → made_of level ≡ push_all side (pushed_list es) (made_of before) → kept ≡ kept_of (made_of before) → places_of level ≡ made_places kept (made_of level) → places_of level ≤ 6 → (AreThere w before → AreThere w level) → ((limit : ℕ) → AreUnder limit before → AreUnder limit level) → ((k : Bool) → AreKeyed k w (pushed_list es) → KeyedLevel k w before → KeyedLevel k w level) → IsPushed w side es q level
pushed_from side es q before level kept read made k places most stands under keyed = record { before = before; read = read; made = made; places = rw k at places; most = most; there = stands read.there; under = under; keyed = λ j h ks. keyed j ks (read.keyed j h) }
