-- The events of a seed are a script.
use Rattle.std.proofs.Common.{◌≡◌, ℕ, zero, suc, ◌+◌, ◌-◌, ◌*◌, ◌/◌, ◌%◌, ◌<◌, ◌≤◌, min, cond, Bool, true, false, not, ◌&&◌, ◌||◌, ltb, leb, Some, List, [], ◌∷◌, ◌++◌, length, refl, sym, ap, ap₂, subst, subst₂, ◌∙◌, arith, inl, inr, ⊎_elim, lit<, length-append}
use Rattle.std.specs.Prelude.{slice_get, unwrap_or}
use Rattle.std.specs.List.{list_all}
use Rattle.std.proofs.Math.Nat.{add-mul-mod_self_left}
use Rattle.std.proofs.lemmas.Bool.{and_parts, and_from, le-leb, lt-ltb, not-true, cases_lt, both_ways}
use Rattle.lazy_rec.specs.declared.events.Kind.{Kind}
use Rattle.lazy_rec.specs.declared.events.Kind.TheVariants as kinds
use Rattle.lazy_rec.specs.declared.events.Op.{Op}
use Rattle.lazy_rec.specs.declared.events.Op.TheVariants as ops
use Rattle.lazy_rec.specs.declared.events.Event.{Event}
use Rattle.lazy_rec.specs.Kinds.{belongs, same_kind, is_split, uses_base, uses_argument}
use Rattle.lazy_rec.specs.Numbering.{kind_of_number}
use Rattle.lazy_rec.specs.History.{event_of, event_name, is_second, second_mark, kind_of, new_kind}
use Rattle.lazy_rec.proofs.NumberLaws.{same_kind-refl}
use Rattle.lazy_rec.proofs.HistoryLaws.{event_name-first, is_second-first, kind-if_base, kind_of-append}
use Rattle.script_text.specs.declared.model.Form.{Form}
use Rattle.script_text.specs.declared.model.Form.TheVariants as forms
use Rattle.script_text.specs.Lines.{most_number}
use Rattle.script_text.specs.Words.{has_labels}
use Rattle.script_text.specs.Events.{ScriptView, event, is_split_at}
use Rattle.script_text.specs.Text.{Follows, events_with}
use Rattle.script_text.specs.Generator.{Made, next_state, shown, small_event, bound_of_event, state_after, kind_in_turn, choices, choice, chosen, trimmed, chosen_event, next_event, one_more, made_from, generated}
use Rattle.script_text.proofs.Fits.{HasBase, shape, fit_one, fit_two}
use Rattle.script_text.proofs.Follow.{or_right, implies_left, kind_next}

-- ---- what is chosen

-- the operations of a kind are of the kind, have a base and make one version
abbrev fits : Kind → Op → Bool
fits k o = belongs k o && uses_base o && not (is_split o)

all_fit : (k : Kind) → list_all (fits k) (choices k) ≡ true
all_fit kinds.Stream = refl
all_fit kinds.Bankq = refl
all_fit kinds.Rtq = refl
all_fit kinds.Heap = refl
all_fit kinds.Seq = refl
all_fit kinds.Prio = refl
all_fit kinds.Ord = refl
all_fit kinds.Cat = refl

some_choice : (k : Kind) → 0 < length (choices k)
some_choice kinds.Stream = lit< tt
some_choice kinds.Bankq = lit< tt
some_choice kinds.Rtq = lit< tt
some_choice kinds.Heap = lit< tt
some_choice kinds.Seq = lit< tt
some_choice kinds.Prio = lit< tt
some_choice kinds.Ord = lit< tt
some_choice kinds.Cat = lit< tt

got_passes : (test : Op → Bool) (xs : List Op) (i : ℕ) (d : Op) → list_all test xs ≡ true → i < length xs → test (unwrap_or (slice_get xs i) d) ≡ true
got_passes test [] i d h l = absurd (omega arith)
got_passes test (x ∷ xs) zero d h l = (and_parts (test x) (list_all test xs) h).0
got_passes test (x ∷ xs) (suc i) d h l = got_passes test xs i d (and_parts (test x) (list_all test xs) h).1 (omega arith)

record IsChoice (k : Kind) (o : Op) : Type 0 where
  pub has : belongs k o ≡ true
  pub base : uses_base o ≡ true
  pub one : is_split o ≡ false

choice_fits : (k : Kind) (r : ℕ) → IsChoice k (choice k r)
choice_fits k r =
    let o = choice k r in
    let low : r % length (choices k) < length (choices k) = omega (arith, some_choice k) in
    let h = got_passes (fits k) (choices k) (r % length (choices k)) ops.Size (all_fit k) low in
    let parts = and_parts (belongs k o && uses_base o) (not (is_split o)) h in
    let both = and_parts (belongs k o) (uses_base o) parts.0 in
    record { has = both.0; base = both.1; one = not-true (is_split o) parts.1 }

-- a chosen event is one of those before, eight or more events ago, and of the kind in turn
record IsEarlier (made v : ℕ) : Type 0 where
  pub low : 0 < v
  pub high : v ≤ made
  pub kind : kind_in_turn (v - 1) ≡ kind_in_turn made

ago : (made m : ℕ) → 8 * m ≤ made → kind_in_turn (made - 8 * m) ≡ kind_in_turn made
ago made m h =
    let back : made - 8 * m + 8 * m ≡ made = omega arith in
    let same : made % 8 ≡ (made - 8 * m) % 8 = subst (λ k. k % 8 ≡ (made - 8 * m) % 8) back (add-mul-mod_self_left (made - 8 * m) 8 m) in
    ap (λ k. unwrap_or (kind_of_number k) kinds.Stream) (sym same)

is_earlier : (made r : ℕ) → 8 ≤ made → IsEarlier made (chosen made r)
is_earlier made r h = go (r % min 8 (made / 8)) (omega arith)
  where
    go : (newer : ℕ) → 8 * (newer + 1) ≤ made → IsEarlier made (made + 1 - 8 * (newer + 1))
    go newer l =
        let is : made + 1 - 8 * (newer + 1) - 1 ≡ made - 8 * (newer + 1) = omega arith in
        record { low = omega arith; high = omega arith; kind = ap kind_in_turn is ∙ ago made (newer + 1) l }

-- ---- events that take turns

record IsTurned (es : List Event) (n : ℕ) : Type 0 where
  pub many : length es ≡ n
  pub kinds : (i : ℕ) → i < n → kind_of (event_of es) (suc i) ≡ Some (kind_in_turn i)

earlier_base : (es : List Event) (n : ℕ) (o : Op) (v : ℕ) → IsTurned es n → n < 200000 → IsEarlier n v → belongs (kind_in_turn n) o ≡ true → HasBase (event_of es) (suc (length es)) o v
earlier_base es n o v t l e has =
    let many = t.many in
    let low = e.low in
    let high = e.high in
    let first : v < second_mark = omega arith in
    let named = event_name-first v first in
    let at : suc (v - 1) ≡ v = omega arith in
    let is : kind_of (event_of es) v ≡ Some (kind_in_turn n) = subst (λ k. kind_of (event_of es) k ≡ Some (kind_in_turn (v - 1))) at (t.kinds (v - 1) (omega arith)) ∙ ap Some e.kind in
    record {
      smaller = subst (λ m. (ltb 0 m && ltb m (suc (length es))) ≡ true) (sym named) (and_from (ltb 0 v) (ltb v (suc (length es))) (lt-ltb 0 v low) (lt-ltb v (suc (length es)) (omega arith)));
      kind = kind_in_turn n;
      is = ap (kind_of (event_of es)) named ∙ is;
      has = has;
      second = implies_left (is_second v) (is_split_at es (event_name v)) (is_second-first v first);
    }

small_in_form : (form : Form) (o : Op) (x : ℕ) → x ≤ 99 → is_split o ≡ false → (leb x (most_number form) && (has_labels form || not (is_split o))) ≡ true
small_in_form form o x l one = and_from (leb x (most_number form)) (has_labels form || not (is_split o)) (small form) (or_right (has_labels form) (not (is_split o)) (rw one refl))
  where
    small : (form : Form) → leb x (most_number form) ≡ true
    small forms.One = le-leb x 4294967295 (omega arith)
    small forms.Two = le-leb x 4294967295 (omega arith)
    small forms.Three = le-leb x 18446744073709551615 (omega arith)

trimmed_follows : (s : ScriptView) (o : Op) (v u x : ℕ) → length s.events < 200000 → uses_base o ≡ true → is_split o ≡ false → x ≤ 99 → (h : HasBase (event_of s.events) (suc (length s.events)) o v) → (g : HasBase (event_of s.events) (suc (length s.events)) o u) → same_kind h.kind g.kind ≡ true → Follows s (trimmed o v u x)
trimmed_follows s o v u x room base one l h g same =
    let E = event_of s.events in
    let n = suc (length s.events) in
    elim (shape o) [
      | inl new ↦ absurd (both_ways (uses_base o) (subst (λ p. uses_base p ≡ false) (sym new.1) refl) base)
      | inr (inl p) ↦
          let is : event o v 0 0 ≡ trimmed o v u x = rw (p.others, p.arguments) refl in
          subst (Follows s) is (record { room = room; fits = fit_one E n o v 0 base p.others (or_right (uses_argument o) true refl) (omega arith) h; in_form = small_in_form s.form o 0 (omega arith) one })
      | inr (inr (inl p)) ↦
          let is : event o v 0 x ≡ trimmed o v u x = rw (p.others, p.arguments) refl in
          subst (Follows s) is (record { room = room; fits = fit_one E n o v x base p.others (rw p.arguments refl) (omega arith) h; in_form = small_in_form s.form o x l one })
      | inr (inr (inr p)) ↦
          let is : event o v u 0 ≡ trimmed o v u x = rw (p.others, p.arguments) refl in
          subst (Follows s) is (record { room = room; fits = fit_two E n o v u base p.others h g same; in_form = small_in_form s.form o 0 (omega arith) one })
    ]

new_follows : (s : ScriptView) (k : Kind) → length s.events < 200000 → Follows s (event (ops.New k) 0 0 0)
new_follows s k room = record { room = room; fits = refl; in_form = small_in_form s.form (ops.New k) 0 (omega arith) refl }

-- an event in turn: it may stand next, and has the kind in turn
record IsInTurn (s : ScriptView) (n : ℕ) (e : Event) : Type 0 where
  pub follows : Follows s e
  pub kind : new_kind e.op (kind_of (event_of s.events) (event_name e.base)) ≡ Some (kind_in_turn n)

chosen_in_turn : (s : ScriptView) (n r1 r2 r3 : ℕ) → IsTurned s.events n → n < 200000 → 8 ≤ n → IsInTurn s n (chosen_event n r1 r2 r3)
unfolding earlier_base
chosen_in_turn s n r1 r2 r3 t room l =
    let k = kind_in_turn n in
    let o = choice k r2 in
    let c = choice_fits k r2 in
    let many = t.many in
    let base = earlier_base s.events n o (chosen n r1) t room (is_earlier n r1 l) c.has in
    let other = earlier_base s.events n o (chosen n r3) t room (is_earlier n r3 l) c.has in
    record {
      follows = trimmed_follows s o (chosen n r1) (chosen n r3) (r3 % 100) (omega arith) c.base c.one (omega arith) base other (same_kind-refl k);
      kind = kind-if_base o (kind_of (event_of s.events) (event_name (chosen n r1))) c.base ∙ base.is;
    }

next_in_turn : (s : ScriptView) (n state : ℕ) (bounds : List ℕ) → IsTurned s.events n → n < 200000 → IsInTurn s n (next_event n state bounds)
next_in_turn s n state bounds t room =
    let first = next_state state in
    let second = next_state first in
    let third = next_state second in
    let e = chosen_event n (shown first) (shown second) (shown third) in
    by (ltb n 8) (small_event n bounds e) refl (λ high. either (leb (bound_of_event bounds e) 15) e (chosen_in_turn s n (shown first) (shown second) (shown third) t room high))
  where
    new : IsInTurn s n (event (ops.New (kind_in_turn n)) 0 0 0)
    new = record { follows = new_follows s (kind_in_turn n) (let many = t.many in omega arith); kind = refl }

    either : (b : Bool) (e : Event) → IsInTurn s n e → IsInTurn s n (cond b e (event (ops.New (kind_in_turn n)) 0 0 0))
    either true e h = h
    either false e h = new

    by : (b : Bool) (e : Event) → ltb n 8 ≡ b → (8 ≤ n → IsInTurn s n e) → IsInTurn s n (cond b (event (ops.New (kind_in_turn n)) 0 0 0) e)
    by true e is h = new
    by false e is h = ⊎_elim (λ low. absurd (both_ways (ltb n 8) is (lt-ltb n 8 low))) h (cases_lt n 8)

turned_more : (s : ScriptView) (n : ℕ) (e : Event) → IsTurned s.events n → IsInTurn s n e → IsTurned (s.events ++ e ∷ []) (suc n)
turned_more s n e t h =
    record {
      many = let many = t.many in omega (arith, length-append s.events (e ∷ []));
      kinds = λ i l. elim (cases_lt i n) [
        | inl old ↦ kind_of-append s.events (e ∷ []) (suc i) (let many = t.many in omega arith) ∙ t.kinds i old
        | inr new ↦ let same : n ≡ i = omega arith in subst (λ j. kind_of (event_of (s.events ++ e ∷ [])) (suc j) ≡ Some (kind_in_turn j)) same last
      ];
    }
  where
    last : kind_of (event_of (s.events ++ e ∷ [])) (suc n) ≡ Some (kind_in_turn n)
    last = subst (λ k. kind_of (event_of (s.events ++ e ∷ [])) (suc k) ≡ Some (kind_in_turn n)) t.many (kind_next s e h.follows ∙ h.kind)

-- ---- the events of a seed

turned : (seed n : ℕ) → n ≤ 200000 → IsTurned (made_from seed n).events n
unfolding made_from
turned seed zero l = record { many = refl; kinds = λ i h. absurd (omega arith) }
turned seed (suc n) l =
    let t = turned seed n (omega arith) in
    turned_more (generated seed n) n (next_event n (made_from seed n).state (made_from seed n).bounds) t (next_in_turn (generated seed n) n (made_from seed n).state (made_from seed n).bounds t (omega arith))

-- the next event of a seed may stand next
made_follows : (seed n : ℕ) → n < 200000 → Follows (generated seed n) (next_event n (made_from seed n).state (made_from seed n).bounds)
made_follows seed n l = (next_in_turn (generated seed n) n (made_from seed n).state (made_from seed n).bounds (turned seed n (omega arith)) l).follows

made_next : (seed n : ℕ) → made_from seed (n + 1) ≡ one_more n (made_from seed n)
unfolding made_from
made_next seed n = let is : n + 1 ≡ suc n = omega arith in ap (made_from seed) is

-- ---- the loop that makes them

pub record IsSoFar (seed n : ℕ) (s : ScriptView) (state : ℕ) (bounds : List ℕ) : Type 0 where
  pub is_script : s ≡ generated seed n
  pub is_state : state ≡ (made_from seed n).state
  pub is_bounds : bounds ≡ (made_from seed n).bounds

pub so_far_none : (seed : ℕ) (s : ScriptView) (bounds : List ℕ) → s ≡ record { form = forms.One; events = [] } → bounds ≡ [] → IsSoFar seed 0 s seed bounds
unfolding made_from
so_far_none seed s bounds is none = record { is_script = is; is_state = refl; is_bounds = none }

next_is : (seed n : ℕ) (s : ScriptView) (state : ℕ) (bounds : List ℕ) (e : Event) → IsSoFar seed n s state bounds → e ≡ next_event n state bounds → e ≡ next_event n (made_from seed n).state (made_from seed n).bounds
next_is seed n s state bounds e h is = is ∙ ap₂ (next_event n) h.is_state h.is_bounds

pub so_far_follows : (seed n : ℕ) (s : ScriptView) (state : ℕ) (bounds : List ℕ) (e : Event) → n < 200000 → IsSoFar seed n s state bounds → e ≡ next_event n state bounds → Follows s e
so_far_follows seed n s state bounds e l h is = subst₂ Follows (sym h.is_script) (sym (next_is seed n s state bounds e h is)) (made_follows seed n l)

pub so_far_more : (seed n : ℕ) (s : ScriptView) (state : ℕ) (bounds : List ℕ) (e : Event) (after bound : ℕ) → IsSoFar seed n s state bounds → e ≡ next_event n state bounds → after ≡ state_after n state → bound ≡ bound_of_event bounds e → IsSoFar seed (n + 1) (events_with s e) after (bounds ++ bound ∷ [])
so_far_more seed n s state bounds e after bound h is then of =
    let m : Made = made_from seed n in
    let is' = next_is seed n s state bounds e h is in
    let next = made_next seed n in
    record {
      is_script = ap₂ events_with h.is_script is' ∙ sym (ap (λ (x : Made). record { form = forms.One; events = x.events }) next);
      is_state = then ∙ (ap (state_after n) h.is_state ∙ sym (ap (λ (x : Made). x.state) next));
      is_bounds = ap₂ (λ (b : List ℕ) x. b ++ x ∷ []) h.is_bounds (of ∙ ap₂ bound_of_event h.is_bounds is') ∙ sym (ap (λ (x : Made). x.bounds) next);
    }
