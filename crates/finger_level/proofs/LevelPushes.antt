-- What pushes do to a level, on plain data.
use Rattle.std.proofs.Common.{◌≡◌, ℕ, refl, sym, ap, ◌∙◌, Bool, true, false, List, [], ◌∷◌, ◌++◌}
use Rattle.std.specs.Prelude.{flat_map}
use Rattle.std.proofs.lemmas.Bool.{true≢false}
use Rattle.std.proofs.lemmas.List.{append_assoc, append-nil}
use Rattle.std.proofs.lemmas.Grind.{flat_map-append}
use Rattle.heap_store.specs.Completion.{Made, Middle, empty, one, deep, tree, push_left, push_right, node_left, node_right, push_one_left, push_one_right}
use Rattle.finger_level.specs.Level.{all_of, if_there, middle_elements, middle_trees, middle_items, elements_in, trees_in, nodes_in, inner_in, items_of_made}

-- a middle onto which nodes can be pushed from a side
abbrev pub is_open_left : Middle → Bool
is_open_left (tree _) = true
is_open_left (push_left _ _) = true
is_open_left _ = false

abbrev pub is_open_right : Middle → Bool
is_open_right (tree _) = true
is_open_right (push_right _ _) = true
is_open_right _ = false

abbrev pub open_left : Made → Bool
open_left (deep l m r) = is_open_left m
open_left _ = true

abbrev pub open_right : Made → Bool
open_right (deep l m r) = is_open_right m
open_right _ = true

-- ---- elements and trees

node_elements : (n : List ℕ) (m : Middle) → is_open_left m ≡ true → middle_elements (node_left n m) ≡ n ++ middle_elements m
node_elements n (tree t) h = refl
node_elements n (push_left t ns) h = refl
node_elements n _ h = absurd (true≢false (sym h))

node_trees : (n : List ℕ) (m : Middle) → is_open_left m ≡ true → middle_trees (node_left n m) ≡ middle_trees m
node_trees n (tree t) h = refl
node_trees n (push_left t ns) h = refl
node_trees n _ h = absurd (true≢false (sym h))

pub elements_left : (e : ℕ) (t : Made) → open_left t ≡ true → elements_in (push_one_left e t) ≡ e ∷ elements_in t
elements_left e empty h = refl
elements_left e (one f) h = refl
elements_left e (deep (b ∷ c ∷ d ∷ f ∷ []) m r) h = rw (node_elements (c ∷ d ∷ f ∷ []) m h) refl
elements_left e (deep [] m r) h = refl
elements_left e (deep (b ∷ []) m r) h = refl
elements_left e (deep (b ∷ c ∷ []) m r) h = refl
elements_left e (deep (b ∷ c ∷ d ∷ []) m r) h = refl
elements_left e (deep (b ∷ c ∷ d ∷ f ∷ g ∷ gs) m r) h = refl

pub trees_left : (e : ℕ) (t : Made) → open_left t ≡ true → trees_in (push_one_left e t) ≡ trees_in t
trees_left e empty h = refl
trees_left e (one f) h = refl
trees_left e (deep (b ∷ c ∷ d ∷ f ∷ []) m r) h = node_trees (c ∷ d ∷ f ∷ []) m h
trees_left e (deep [] m r) h = refl
trees_left e (deep (b ∷ []) m r) h = refl
trees_left e (deep (b ∷ c ∷ []) m r) h = refl
trees_left e (deep (b ∷ c ∷ d ∷ []) m r) h = refl
trees_left e (deep (b ∷ c ∷ d ∷ f ∷ g ∷ gs) m r) h = refl

-- such a middle names nothing of the levels further down
pub bare_left : (t : Made) → open_left t ≡ true → (nodes_in t ≡ []) × (inner_in t ≡ [])
bare_left empty h = (refl, refl)
bare_left (one e) h = (refl, refl)
bare_left (deep l (tree t) r) h = (refl, refl)
bare_left (deep l (push_left t ns) r) h = (refl, refl)
bare_left (deep l _ r) h = absurd (true≢false (sym h))

pub bare_right : (t : Made) → open_right t ≡ true → (nodes_in t ≡ []) × (inner_in t ≡ [])
bare_right empty h = (refl, refl)
bare_right (one e) h = (refl, refl)
bare_right (deep l (tree t) r) h = (refl, refl)
bare_right (deep l (push_right t ns) r) h = (refl, refl)
bare_right (deep l _ r) h = absurd (true≢false (sym h))

-- ---- items

module _ (f : ℕ → List ℕ) where
  node_items : (n : List ℕ) (m : Middle) → is_open_left m ≡ true → middle_items f (node_left n m) ≡ flat_map f n ++ middle_items f m
  node_items n (tree t) h = ap (λ k. flat_map f k ++ flat_map f (if_there t)) (append-nil n)
  node_items n (push_left t ns) h = rw (flat_map-append f n (all_of ns)) (append_assoc (flat_map f n) (flat_map f (all_of ns)) (flat_map f (if_there t)))
  node_items n _ h = absurd (true≢false (sym h))

  -- a list in front of a digit
  in_front : (a b m r : List ℕ) → (a ++ b) ++ m ++ r ≡ a ++ (b ++ m ++ r)
  in_front a b m r = ap (λ k. k ++ r) (append_assoc a b m) ∙ append_assoc a (b ++ m) r

  full_items : (e b c d g : ℕ) (m r : List ℕ) → flat_map f (e ∷ b ∷ []) ++ (flat_map f (c ∷ d ∷ g ∷ []) ++ m) ++ r ≡ f e ++ (flat_map f (b ∷ c ∷ d ∷ g ∷ []) ++ m ++ r)
  full_items e b c d g m r = simp (append_assoc, append-nil) refl

  pub items_left : (e : ℕ) (t : Made) → open_left t ≡ true → items_of_made f (push_one_left e t) ≡ f e ++ items_of_made f t
  items_left e empty h = sym (append-nil (f e))
  items_left e (one g) h = simp (append_assoc, append-nil) refl
  items_left e (deep (b ∷ c ∷ d ∷ g ∷ []) m r) h = rw (node_items (c ∷ d ∷ g ∷ []) m h) (full_items e b c d g (middle_items f m) (flat_map f r))
  items_left e (deep [] m r) h = in_front (f e) [] (middle_items f m) (flat_map f r)
  items_left e (deep (b ∷ []) m r) h = in_front (f e) (flat_map f (b ∷ [])) (middle_items f m) (flat_map f r)
  items_left e (deep (b ∷ c ∷ []) m r) h = in_front (f e) (flat_map f (b ∷ c ∷ [])) (middle_items f m) (flat_map f r)
  items_left e (deep (b ∷ c ∷ d ∷ []) m r) h = in_front (f e) (flat_map f (b ∷ c ∷ d ∷ [])) (middle_items f m) (flat_map f r)
  items_left e (deep (b ∷ c ∷ d ∷ g ∷ k ∷ ks) m r) h = in_front (f e) (flat_map f (b ∷ c ∷ d ∷ g ∷ k ∷ ks)) (middle_items f m) (flat_map f r)

-- ---- the right side

node_elements_right : (n : List ℕ) (m : Middle) → is_open_right m ≡ true → middle_elements (node_right n m) ≡ middle_elements m ++ n
node_elements_right n (tree t) h = append-nil n
node_elements_right n (push_right t ns) h = flat_map-append (λ k. k) ns (n ∷ []) ∙ ap (λ k. all_of ns ++ k) (append-nil n)
node_elements_right n _ h = absurd (true≢false (sym h))

node_trees_right : (n : List ℕ) (m : Middle) → is_open_right m ≡ true → middle_trees (node_right n m) ≡ middle_trees m
node_trees_right n (tree t) h = refl
node_trees_right n (push_right t ns) h = refl
node_trees_right n _ h = absurd (true≢false (sym h))

-- behind a digit
behind : (l m r a : List ℕ) → l ++ (m ++ (r ++ a)) ≡ (l ++ (m ++ r)) ++ a
behind l m r a = sym (append_assoc l (m ++ r) a ∙ ap (λ k. l ++ k) (append_assoc m r a))

pub elements_right : (t : Made) (e : ℕ) → open_right t ≡ true → elements_in (push_one_right t e) ≡ elements_in t ++ e ∷ []
elements_right empty e h = refl
elements_right (one f) e h = refl
elements_right (deep l m (b ∷ c ∷ d ∷ f ∷ [])) e h = rw (node_elements_right (b ∷ c ∷ d ∷ []) m h) (ap (λ k. l ++ k) (append_assoc (middle_elements m) (b ∷ c ∷ d ∷ []) (f ∷ e ∷ [])) ∙ behind l (middle_elements m) (b ∷ c ∷ d ∷ f ∷ []) (e ∷ []))
elements_right (deep l m []) e h = behind l (middle_elements m) [] (e ∷ [])
elements_right (deep l m (b ∷ [])) e h = behind l (middle_elements m) (b ∷ []) (e ∷ [])
elements_right (deep l m (b ∷ c ∷ [])) e h = behind l (middle_elements m) (b ∷ c ∷ []) (e ∷ [])
elements_right (deep l m (b ∷ c ∷ d ∷ [])) e h = behind l (middle_elements m) (b ∷ c ∷ d ∷ []) (e ∷ [])
elements_right (deep l m (b ∷ c ∷ d ∷ f ∷ g ∷ gs)) e h = behind l (middle_elements m) (b ∷ c ∷ d ∷ f ∷ g ∷ gs) (e ∷ [])

pub trees_right : (t : Made) (e : ℕ) → open_right t ≡ true → trees_in (push_one_right t e) ≡ trees_in t
trees_right empty e h = refl
trees_right (one f) e h = refl
trees_right (deep l m (b ∷ c ∷ d ∷ f ∷ [])) e h = node_trees_right (b ∷ c ∷ d ∷ []) m h
trees_right (deep l m []) e h = refl
trees_right (deep l m (b ∷ [])) e h = refl
trees_right (deep l m (b ∷ c ∷ [])) e h = refl
trees_right (deep l m (b ∷ c ∷ d ∷ [])) e h = refl
trees_right (deep l m (b ∷ c ∷ d ∷ f ∷ g ∷ gs)) e h = refl

open_node_left : (n : List ℕ) (m : Middle) → is_open_left m ≡ true → is_open_left (node_left n m) ≡ true
open_node_left n (tree t) h = refl
open_node_left n (push_left t ns) h = refl
open_node_left n _ h = absurd (true≢false (sym h))

open_node_right : (n : List ℕ) (m : Middle) → is_open_right m ≡ true → is_open_right (node_right n m) ≡ true
open_node_right n (tree t) h = refl
open_node_right n (push_right t ns) h = refl
open_node_right n _ h = absurd (true≢false (sym h))

pub open_after_left : (e : ℕ) (t : Made) → open_left t ≡ true → open_left (push_one_left e t) ≡ true
open_after_left e empty h = refl
open_after_left e (one g) h = refl
open_after_left e (deep (b ∷ c ∷ d ∷ f ∷ []) m r) h = open_node_left (c ∷ d ∷ f ∷ []) m h
open_after_left e (deep [] m r) h = h
open_after_left e (deep (b ∷ []) m r) h = h
open_after_left e (deep (b ∷ c ∷ []) m r) h = h
open_after_left e (deep (b ∷ c ∷ d ∷ []) m r) h = h
open_after_left e (deep (b ∷ c ∷ d ∷ f ∷ g ∷ gs) m r) h = h

pub open_after_right : (t : Made) (e : ℕ) → open_right t ≡ true → open_right (push_one_right t e) ≡ true
open_after_right empty e h = refl
open_after_right (one g) e h = refl
open_after_right (deep l m (b ∷ c ∷ d ∷ f ∷ [])) e h = open_node_right (b ∷ c ∷ d ∷ []) m h
open_after_right (deep l m []) e h = h
open_after_right (deep l m (b ∷ [])) e h = h
open_after_right (deep l m (b ∷ c ∷ [])) e h = h
open_after_right (deep l m (b ∷ c ∷ d ∷ [])) e h = h
open_after_right (deep l m (b ∷ c ∷ d ∷ f ∷ g ∷ gs)) e h = h

module _ (f : ℕ → List ℕ) where
  node_items_right : (n : List ℕ) (m : Middle) → is_open_right m ≡ true → middle_items f (node_right n m) ≡ middle_items f m ++ flat_map f n
  node_items_right n (tree t) h = ap (λ k. flat_map f (if_there t) ++ flat_map f k) (append-nil n)
  node_items_right n (push_right t ns) h = ap (λ k. flat_map f (if_there t) ++ k) (ap (flat_map f) (flat_map-append (λ k. k) ns (n ∷ []) ∙ ap (λ k. all_of ns ++ k) (append-nil n)) ∙ flat_map-append f (all_of ns) n) ∙ sym (append_assoc (flat_map f (if_there t)) (flat_map f (all_of ns)) (flat_map f n))
  node_items_right n _ h = absurd (true≢false (sym h))

  at_end : (l m r a : List ℕ) → l ++ m ++ (r ++ a) ≡ (l ++ m ++ r) ++ a
  at_end l m r a = sym (append_assoc (l ++ m) r a)

  full_right : (l m : List ℕ) (b c d g e : ℕ) → l ++ (m ++ flat_map f (b ∷ c ∷ d ∷ [])) ++ flat_map f (g ∷ e ∷ []) ≡ (l ++ m ++ flat_map f (b ∷ c ∷ d ∷ g ∷ [])) ++ f e
  full_right l m b c d g e = simp (append_assoc, append-nil) refl

  one_more : (xs : List ℕ) (e : ℕ) → flat_map f (xs ++ e ∷ []) ≡ flat_map f xs ++ f e
  one_more xs e = flat_map-append f xs (e ∷ []) ∙ ap (λ k. flat_map f xs ++ k) (append-nil (f e))

  longer : (l m : List ℕ) (r : List ℕ) (e : ℕ) → l ++ m ++ flat_map f (r ++ e ∷ []) ≡ (l ++ m ++ flat_map f r) ++ f e
  longer l m r e = ap (λ k. l ++ m ++ k) (one_more r e) ∙ at_end l m (flat_map f r) (f e)

  pub items_right : (t : Made) (e : ℕ) → open_right t ≡ true → items_of_made f (push_one_right t e) ≡ items_of_made f t ++ f e
  items_right empty e h = refl
  items_right (one g) e h = simp (append_assoc, append-nil) refl
  items_right (deep l m (b ∷ c ∷ d ∷ g ∷ [])) e h = rw (node_items_right (b ∷ c ∷ d ∷ []) m h) (full_right (flat_map f l) (middle_items f m) b c d g e)
  items_right (deep l m []) e h = longer (flat_map f l) (middle_items f m) [] e
  items_right (deep l m (b ∷ [])) e h = longer (flat_map f l) (middle_items f m) (b ∷ []) e
  items_right (deep l m (b ∷ c ∷ [])) e h = longer (flat_map f l) (middle_items f m) (b ∷ c ∷ []) e
  items_right (deep l m (b ∷ c ∷ d ∷ [])) e h = longer (flat_map f l) (middle_items f m) (b ∷ c ∷ d ∷ []) e
  items_right (deep l m (b ∷ c ∷ d ∷ g ∷ k ∷ ks)) e h = longer (flat_map f l) (middle_items f m) (b ∷ c ∷ d ∷ g ∷ k ∷ ks) e
