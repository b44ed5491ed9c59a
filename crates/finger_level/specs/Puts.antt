-- What the puts of a level and of its parts ask and make.
use Rattle.std.specs.Prelude.{◌≡◌, ℕ, suc, ◌+◌, ◌<◌, ◌≤◌, true, Option, Some, None, List, [], ◌++◌, length, flat_map}
use Rattle.std.specs.List.{AllByRecursion}
use Rattle.lazy_rec.specs.declared.places.Ref.{Ref}
use Rattle.lazy_rec.specs.declared.records.Rec.{Rec}
use Rattle.lazy_rec.specs.declared.records.Rec.TheVariants.{Deep, PushL, PushR, DeepL, DeepR, Concat}
use Rattle.lazy_rec.specs.Meaning.{means}
use Rattle.lazy_rec.specs.Units.{family_of}
use Rattle.heap_store.specs.Span.{Span}
use Rattle.heap_store.specs.World.{World, recs, holds}
use Rattle.heap_store.specs.Completion as top
use Rattle.heap_store.specs.Completion.{Made, elements, made_tree, is_top}
use Rattle.heap_store.specs.Lawful.{is_of_level, height, level, level_from}
use Rattle.heap_store.specs.Hand.{IsInHand}
use Rattle.heap_store.specs.View.{View}
use Rattle.heap_store.specs.Jobs.{Filled, IsUnpassed}
use Rattle.lazy_rec.specs.Numbers.{bits}
use Rattle.finger_level.specs.declared.few.Few.{Few}
use Rattle.finger_level.specs.declared.few.Group.{Group}
use Rattle.finger_level.specs.declared.few.Weight.{Weight}
use Rattle.finger_level.specs.declared.level.Digit.{Digit}
use Rattle.finger_level.specs.declared.level.Digit.TheVariants as digits
use Rattle.finger_level.specs.declared.level.Middle.{Middle}
use Rattle.finger_level.specs.declared.level.Level.{Level}
use Rattle.finger_level.specs.declared.level.Level.TheVariants as levels
use Rattle.finger_level.specs.declared.level.Nodes.{Nodes}
use Rattle.finger_level.specs.declared.level.Nodes.TheVariants as nodes
use Rattle.finger_level.specs.declared.level.NodeRow.{NodeRow}
use Rattle.finger_level.specs.declared.level.Side.{Side}
use Rattle.finger_level.specs.declared.level.Side.TheVariants as sides
use Rattle.finger_level.specs.declared.level.Pushed.{Pushed}
use Rattle.finger_level.specs.declared.level.Pushed.TheVariants as pushes
use Rattle.finger_level.specs.declared.level.Family.{Family}
use Rattle.finger_level.specs.declared.level.Family.TheVariants.{First, Later}
use Rattle.finger_level.specs.Few.{few_list, no_place, node_record}
use Rattle.finger_level.specs.Level.{digit_few, digit_list, digit_places, without, shorter, middle_nodes, middle_inner, nodes_in, inner_in, middle_places, places_of, made_of, elements_in, trees_in, items_of_made, middle_elements, middle_trees, middle_items, tree_of, nodes_list, nodes_places, row_list, row_places, middle_of}
use Rattle.finger_level.specs.Reads.{is_element, is_tree_rec, is_tree_value, IsDigitAt, IsNodeAt, IsThere, IsUnder, IsThereMiddle, IsUnderMiddle, AreUnder, AreThere}
use Rattle.finger_level.specs.Pushes.{pushed_list}

-- an element of a level, below a place
pub record IsElement (w : World) (d limit p : ℕ) : Type 0 where
  pub under : p < limit
  pub sort : holds (recs w) p is_element ≡ true
  pub of_level : is_of_level (recs w) p d ≡ true

-- a tree of a level, below a place
pub record IsTree (w : World) (d limit p : ℕ) : Type 0 where
  pub under : p < limit
  pub sort : holds (recs w) p is_tree_rec ≡ true
  pub of_level : is_of_level (recs w) p d ≡ true

-- some elements that fit one digit or node
pub record AreElements (w : World) (d limit : ℕ) (es : List ℕ) : Type 0 where
  pub each : AllByRecursion (IsElement w d limit) es
  pub small : length (flat_map (means (recs w)) es) ≤ 2147483647

-- what the put of a part asks: elements of one level, and so many places in hand
pub record PartAsk (v : View) (run : Span) (count : ℕ) (es : List ℕ) : Type 0 where
  pub depth : ℕ
  pub elements : AreElements v.seen depth run.next es
  pub held : IsInHand v.hand run
  pub room : run.next + count ≤ run.end

-- the run's places up to its next one were filled, no later suspension among them
pub record Laid (old new : View) (before after : Span) (count : ℕ) : Type 0 where
  pub filled : Filled old new before.next after.next
  pub next : after.next ≡ before.next + count
  pub end : after.end ≡ before.end
  pub held : IsInHand new.hand after
  pub unpassed : (s : Ref) → IsUnpassed s old.hand.claims → IsUnpassed s new.hand.claims
  pub credits : old.hand.credits ≤ new.hand.credits

-- a node was put at the run's next place
pub record NodePut (old new : View) (before after : Span) (group : Group) (place : ℕ) : Type 0 where
  pub laid : Laid old new before after 1
  pub at_next : place ≡ before.next
  pub weight : Weight
  pub here : recs new.seen place ≡ Some (node_record group weight)

-- a digit stands, put where it didn't stand before
pub record DigitPut (old new : View) (before after : Span) (digit : Digit) (place : ℕ) : Type 0 where
  pub laid : Laid old new before after (digit_places digit)
  pub under : place < after.next
  pub shown : IsDigitAt new.seen place (digit_few digit)

-- a middle that is made over parts of a level, below a place
pub record IsMiddle (w : World) (d limit : ℕ) (m : top.Middle) : Type 0 where
  pub elements : AllByRecursion (IsElement w d limit) (middle_elements m)
  pub trees : AllByRecursion (IsTree w (suc d) limit) (middle_trees m)
  pub nodes : AllByRecursion (IsElement w (suc d) limit) (middle_nodes m)
  pub inner : AllByRecursion (IsTree w (suc (suc d)) limit) (middle_inner m)
  pub small : length (middle_items (means (recs w)) m) ≤ 2147483647

-- a level of a tree, whose parts are below a place
pub record IsLevel (w : World) (d limit : ℕ) (made : Made) : Type 0 where
  pub elements : AllByRecursion (IsElement w d limit) (elements_in made)
  pub trees : AllByRecursion (IsTree w (suc d) limit) (trees_in made)
  pub nodes : AllByRecursion (IsElement w (suc d) limit) (nodes_in made)
  pub inner : AllByRecursion (IsTree w (suc (suc d)) limit) (inner_in made)
  pub small : length (items_of_made (means (recs w)) made) ≤ 2147483647

-- the record of a suspended push onto the tree t
abbrev pub push_record : Side → Ref → Pushed → Ref → ℕ → Weight → Rec
push_record sides.Left t (pushes.One e) o off w = PushL 1 off t e no_place o w.size w.key
push_record sides.Left t (pushes.Two e f) o off w = PushL 2 off t e f o w.size w.key
push_record sides.Right t (pushes.One e) o off w = PushR 1 off t e no_place o w.size w.key
push_record sides.Right t (pushes.Two e f) o off w = PushR 2 off t e f o w.size w.key

-- the place of a tree, or that of the empty one
abbrev pub tree_at : Option Ref → Ref
tree_at None = record { 0 = 4 }
tree_at (Some t) = t

-- the middle that it is
abbrev pub push_middle : Side → Option Ref → Nodes → top.Middle
push_middle sides.Left t ns = top.push_left (tree_of t) (nodes_list ns)
push_middle sides.Right t ns = top.push_right (tree_of t) (nodes_list ns)

-- each node at its place
abbrev pub AreNodesAt : World → Nodes → Pushed → Type 0
AreNodesAt w (nodes.One a) (pushes.One e) = IsNodeAt w a e.0
AreNodesAt w (nodes.Two a b) (pushes.Two e f) = IsNodeAt w a e.0 × IsNodeAt w b f.0
AreNodesAt w _ _ = ⊥

-- one or two nodes were put
pub record NodesPut (old new : View) (before after : Span) (ns : Nodes) (es : Pushed) : Type 0 where
  pub laid : Laid old new before after (nodes_places ns)
  pub under : AllByRecursion (λ e. e < after.next) (pushed_list es)
  pub shown : AreNodesAt new.seen ns es

-- what the suspension of a level's middle comes after: a claimed suspension that makes it; or nothing
pub record IsLater (v : View) (d limit : ℕ) (s : Ref) (origin off : ℕ) (m : top.Middle) : Type 0 where
  pub rec : Rec
  pub here : recs v.seen s.0 ≡ Some rec
  pub family : family_of s.0 rec ≡ (origin, off)
  pub left : List ℕ
  pub right : List ℕ
  pub makes : made_tree v.seen rec ≡ Some (top.deep left m right)
  pub newest : IsUnpassed s v.hand.claims
  pub own : level_from (level (recs v.seen)) rec ≡ d
  pub under : s.0 < limit
  pub larger : length (middle_items (means (recs v.seen)) m) ≤ length (means (recs v.seen) s.0)
  pub low : AllByRecursion (λ p. height (recs v.seen) p < origin) (middle_elements m ++ middle_trees m)
  pub low_below : AllByRecursion (λ p. height (recs v.seen) p < origin) (middle_nodes m ++ middle_inner m)

-- how many units the first suspension of a family of so many items shows; a later one shows none
abbrev pub units_shown : Family → ℕ → ℕ
units_shown First size = bits size
units_shown (Later _ _ _) size = 0

-- what a suspension that is put follows in its family
abbrev pub IsFamily : View → ℕ → ℕ → Family → top.Middle → Type 0
IsFamily v d limit First m = Unit {0}
IsFamily v d limit (Later s origin off) m = IsLater v d limit s origin.0 off m

-- what a middle that is put is in its family
abbrev pub IsNext : World → Family → top.Middle → ℕ → Type 0
IsNext w First m p = Unit {0}
IsNext w (Later s origin off) m p = (top.is_middle_at w origin.0 (suc off) m p ≡ true) × (height (recs w) p ≤ origin.0)

-- a middle was put: a tree of the next level with its items, and as the claimed suspension's next one where it is that
pub record MiddlePut (old new : View) (before after : Span) (family : Family) (count : ℕ) (m : top.Middle) (place : ℕ) : Type 0 where
  pub filled : Filled old new before.next after.next
  pub next : after.next ≡ before.next + count
  pub end : after.end ≡ before.end
  pub held : IsInHand new.hand after
  pub tree : (d : ℕ) → IsMiddle old.seen d before.next m → IsTree new.seen (suc d) after.next place
  pub items : means (recs new.seen) place ≡ middle_items (means (recs old.seen)) m
  pub made : IsNext new.seen family m place
  pub credits : old.hand.credits ≤ new.hand.credits + units_shown family (length (middle_items (means (recs old.seen)) m))

-- what the put of a suspended push asks
pub record PushAsk (v : View) (run : Span) (side : Side) (t : Option Ref) (ns : Nodes) (family : Family) : Type 0 where
  pub depth : ℕ
  pub middle : IsMiddle v.seen depth run.next (push_middle side t ns)
  pub follows : IsFamily v depth run.next family (push_middle side t ns)
  pub credits : units_shown family (length (middle_items (means (recs v.seen)) (push_middle side t ns))) ≤ v.hand.credits
  pub held : IsInHand v.hand run
  pub room : run.next + suc (nodes_places ns) ≤ run.end

-- the record of a suspended tail, of a middle and a digit
abbrev pub tail_record : Side → Ref → Ref → Ref → ℕ → Weight → Rec
tail_record sides.Left t d o off w = DeepL t d w.size o off w.key
tail_record sides.Right t d o off w = DeepR t d w.size o off w.key

-- what the put of a suspended tail asks
pub record TailAsk (v : View) (run : Span) (side : Side) (t : Ref) (digit : Digit) (family : Family) : Type 0 where
  pub depth : ℕ
  pub middle : IsMiddle v.seen depth run.next (without side t.0 (digit_list digit))
  pub follows : IsFamily v depth run.next family (without side t.0 (digit_list digit))
  pub credits : units_shown family (length (middle_items (means (recs v.seen)) (without side t.0 (digit_list digit)))) ≤ v.hand.credits
  pub there : IsThere v.seen digit
  pub under : IsUnder run.next digit
  pub held : IsInHand v.hand run
  pub room : run.next + suc (digit_places digit) ≤ run.end

-- what the put of a suspended tail of so many items asks, whose digit stands
pub record WeighedTailAsk (v : View) (run : Span) (side : Side) (t digit : Ref) (family : Family) (size : ℕ) : Type 0 where
  pub few : Few
  pub tail : TailAsk v run side t (digits.Old digit few) family
  pub counts : size ≡ length (middle_items (means (recs v.seen)) (without side t.0 (few_list few)))

-- what the put of a tree with a shorter digit asks
pub record ShorterAsk (v : View) (run : Span) (side : Side) (l : Digit) (t : Ref) (r : Digit) (family : Family) : Type 0 where
  pub depth : ℕ
  pub middle : IsMiddle v.seen depth run.next (shorter side (digit_list l) t.0 (digit_list r))
  pub follows : IsFamily v depth run.next family (shorter side (digit_list l) t.0 (digit_list r))
  pub there : IsThere v.seen l × IsThere v.seen r
  pub under : IsUnder run.next l × IsUnder run.next r
  pub held : IsInHand v.hand run
  pub room : run.next + suc (digit_places l + digit_places r) ≤ run.end

-- the nodes of a row, each at its place
abbrev pub IsRestAt : World → Option Nodes → List ℕ → Type 0
IsRestAt w None ps = ps ≡ []
IsRestAt w (Some ns) ps = (es : Pushed) × AreNodesAt w ns es × (pushed_list es ≡ ps)

pub record IsRowAt (w : World) (row : NodeRow) (es : Few) : Type 0 where
  pub near : Pushed
  pub near_at : AreNodesAt w row.near near
  pub far : List ℕ
  pub far_at : IsRestAt w row.far far
  pub both : few_list es ≡ pushed_list near ++ far

-- a row of nodes was put
pub record RowPut (old new : View) (before after : Span) (row : NodeRow) (es : Few) : Type 0 where
  pub laid : Laid old new before after (row_places row)
  pub under : AllByRecursion (λ e. e < after.next) (few_list es)
  pub shown : IsRowAt new.seen row es

-- the record of a suspended concatenation, of two trees and the digit between them
abbrev pub concat_record : Ref → Ref → Ref → Ref → ℕ → Weight → Rec
concat_record l q r o off w = Concat off l r q o w.size w.key

-- what the put of a suspended concatenation asks
pub record BetweenAsk (v : View) (run : Span) (l : Ref) (row : NodeRow) (r : Ref) (family : Family) : Type 0 where
  pub depth : ℕ
  pub middle : IsMiddle v.seen depth run.next (top.between l.0 r.0 (row_list row))
  pub follows : IsFamily v depth run.next family (top.between l.0 r.0 (row_list row))
  pub credits : units_shown family (length (middle_items (means (recs v.seen)) (top.between l.0 r.0 (row_list row)))) ≤ v.hand.credits
  pub held : IsInHand v.hand run
  pub room : run.next + suc (suc (row_places row)) ≤ run.end

-- what the put of a deep tree's digits and record asks, whose middle stands
pub record EndsAsk (v : View) (run : Span) (left : Digit) (below : ℕ) (right : Digit) (size : ℕ) : Type 0 where
  pub depth : ℕ
  pub first : AllByRecursion (IsElement v.seen depth run.next) (digit_list left)
  pub tree : IsTree v.seen (suc depth) run.next below
  pub last : AllByRecursion (IsElement v.seen depth run.next) (digit_list right)
  pub there : IsThere v.seen left × IsThere v.seen right
  pub under : IsUnder run.next left × IsUnder run.next right
  pub counts : size ≡ length (flat_map (means (recs v.seen)) (digit_list left) ++ means (recs v.seen) below ++ flat_map (means (recs v.seen)) (digit_list right))
  pub small : size ≤ 2147483647
  pub held : IsInHand v.hand run
  pub room : run.next + suc (digit_places left + digit_places right) ≤ run.end

-- a deep tree was put over its digits and its middle
pub record EndsPut (old new : View) (before after : Span) (left : Digit) (below : Ref) (right : Digit) (whole : Weight) (place : ℕ) : Type 0 where
  pub laid : Laid old new before after (suc (digit_places left + digit_places right))
  pub under : place < after.next
  pub first : Ref
  pub last : Ref
  pub here : recs new.seen place ≡ Some (Deep first below last whole.size whole.key)
  pub first_shown : IsDigitAt new.seen first.0 (digit_few left)
  pub last_shown : IsDigitAt new.seen last.0 (digit_few right)

-- what the put of a middle asks
pub record MiddleAsk (v : View) (run : Span) (m : Middle) (family : Family) : Type 0 where
  pub depth : ℕ
  pub middle : IsMiddle v.seen depth run.next (middle_of m)
  pub follows : IsFamily v depth run.next family (middle_of m)
  pub credits : units_shown family (length (middle_items (means (recs v.seen)) (middle_of m))) ≤ v.hand.credits
  pub there : IsThereMiddle v.seen m
  pub under : IsUnderMiddle run.next m
  pub held : IsInHand v.hand run
  pub above : 4 < run.next
  pub room : run.next + middle_places m ≤ run.end

-- the suspension of a deep level's middle follows the claimed one
abbrev pub Follows : View → ℕ → ℕ → Family → Level → Type 0
Follows v d limit family (levels.Deep l m r) = IsFamily v d limit family (middle_of m)
Follows v d limit family _ = Unit {0}

-- what is below the origin of a later suspension
abbrev pub IsLow : World → Family → Made → Type 0
IsLow w First made = Unit {0}
IsLow w (Later s origin off) made = AllByRecursion (λ p. height (recs w) p < origin.0) (elements_in made)

-- what the put of a level asks: parts that stand below the run, room, and credits for what a first suspension shows
pub record LevelAsk (v : View) (run : Span) (level : Level) (family : Family) (whole : Weight) : Type 0 where
  pub depth : ℕ
  pub parts : IsLevel v.seen depth run.next (made_of level)
  pub there : AreThere v.seen level
  pub under : AreUnder run.next level
  pub follows : Follows v depth run.next family level
  pub low : IsLow v.seen family (made_of level)
  pub counts : whole.size ≡ length (items_of_made (means (recs v.seen)) (made_of level))
  pub credits : units_shown family whole.size ≤ v.hand.credits
  pub held : IsInHand v.hand run
  pub room : run.next + places_of level ≤ run.end

-- what a level that is put is in its family: the value of a claimed suspension
abbrev pub IsMadeAt : World → Family → Made → ℕ → Type 0
IsMadeAt w First made p = Unit {0}
IsMadeAt w (Later s origin off) made p = (holds (recs w) p (is_top w origin.0 (suc off) made) ≡ true) × (height (recs w) p ≤ origin.0)

-- a level was put: a value of its level with its items, for as many credits as a first suspension shows
pub record LevelPut (old new : View) (before after : Span) (family : Family) (level : Level) (place : ℕ) : Type 0 where
  pub filled : Filled old new before.next after.next
  pub next : after.next ≡ before.next + places_of level
  pub end : after.end ≡ before.end
  pub value : holds (recs new.seen) place is_tree_value ≡ true
  pub of_level : (d : ℕ) → IsLevel old.seen d before.next (made_of level) → is_of_level (recs new.seen) place d ≡ true
  pub items : means (recs new.seen) place ≡ items_of_made (means (recs old.seen)) (made_of level)
  pub made : IsMadeAt new.seen family (made_of level) place
  pub credits : old.hand.credits ≤ new.hand.credits + units_shown family (length (items_of_made (means (recs old.seen)) (made_of level)))
