-- What publishing a record and changing a state keep.
use Rattle.std.proofs.Common.{◌≡◌, ℕ, ◌<◌, ◌≤◌, sym, ap, ◌∙◌, arith, true, false, ⊎_elim, ◌⊎◌, inl, inr, Option, Some, None, length}
use Rattle.std.specs.Prelude.{option_map, option_and_then, is_some}
use Rattle.std.proofs.lemmas.List.{get_or-set_same, get_or-set_other}
use Rattle.std.proofs.lemmas.Bool.{cases_eq}
use mathlib.Core.Path.{fun_ext}
use Rattle.lazy_rec.specs.declared.records.Rec.{Rec}
use Rattle.lazy_rec.specs.declared.states.SuspState.{SuspState}
use Rattle.lazy_rec.specs.States.{kept, given_up}
use Rattle.heap_store.specs.declared.nodes.Node.{Node}
use Rattle.heap_store.specs.World.{World, recs, node_at, state_at, done_at, show}
use Rattle.heap_store.specs.Growth.{Grows}
use Rattle.heap_store.proofs.NameLaws.{Adds}

state_given : Option Node → ℕ
state_given None = 0
state_given (Some n) = given_up n.state

pub one_value : {X : Type 0} (x y : X) → Some x ≡ Some y → x ≡ y
one_value x y e = ap (elim [ None ↦ x | Some z ↦ z ]) e

module _ (w : World) (p : ℕ) (r : Rec) (s : SuspState) (within : p < length w.nodes) where
  pub node-same : node_at (show w p r s) p ≡ Some (record { rec = r; state = s })
  node-same = get_or-set_same w.nodes p (Some (record { rec = r; state = s })) None within

  pub node-other : (q : ℕ) → (q ≡ p → ⊥) → node_at (show w p r s) q ≡ node_at w q
  node-other q ne = get_or-set_other w.nodes p q (Some (record { rec = r; state = s })) None ne

  -- a record that wasn't there is added
  pub show_adds : node_at w p ≡ None → Adds (recs w) (recs (show w p r s)) p r
  show_adds none = record {
    fresh = ap (option_map (λ (n : Node). n.rec)) none;
    there = ap (option_map (λ (n : Node). n.rec)) node-same;
    others = λ q ne. ap (option_map (λ (n : Node). n.rec)) (node-other q ne);
  }

  -- a record of the new world is the new one, or one of the old world
  pub new_or_old : node_at w p ≡ None → (q : ℕ) (t : Rec) → recs (show w p r s) q ≡ Some t → ((q ≡ p) × (t ≡ r)) ⊎ (recs w q ≡ Some t)
  new_or_old none q t e = let adds = show_adds none in ⊎_elim
      (λ eq. inl (eq, one_value t r (sym e ∙ ap (recs (show w p r s)) eq ∙ adds.there)))
      (λ ne. inr (sym (adds.others q ne) ∙ e)) (cases_eq q p)

  pub state-same : state_at (show w p r s) p ≡ Some s
  state-same = ap (option_map (λ (n : Node). n.state)) node-same

  pub state-other : (q : ℕ) → (q ≡ p → ⊥) → state_at (show w p r s) q ≡ state_at w q
  state-other q ne = ap (option_map (λ (n : Node). n.state)) (node-other q ne)

  pub done-same : done_at (show w p r s) p ≡ kept s
  done-same = ap (option_and_then (λ (n : Node). kept n.state)) node-same

  pub done-other : (q : ℕ) → (q ≡ p → ⊥) → done_at (show w p r s) q ≡ done_at w q
  done-other q ne = ap (option_and_then (λ (n : Node). kept n.state)) (node-other q ne)

  -- publishing grows a world
  pub put_grows : node_at w p ≡ None → Grows w (show w p r s)
  unfolding state_given
  put_grows none = record {
    records = λ q t e. ⊎_elim (λ eq. absurd (no q t eq e)) (λ ne. ap (option_map (λ (n : Node). n.rec)) (node-other q ne) ∙ e) (cases_eq q p);
    done = λ q t e k. ⊎_elim (λ eq. absurd (bare q t eq e)) (λ ne. state-other q ne ∙ e) (cases_eq q p);
    given_up = λ q t u e f. ⊎_elim (λ eq. absurd (bare q t eq e)) (λ ne. same t u (sym e ∙ sym (state-other q ne) ∙ f)) (cases_eq q p);
    begun = λ i t e. e;
    ended = λ i t e f. e;
  }
    where
      no : (q : ℕ) (t : Rec) → q ≡ p → recs w q ≡ Some t → ⊥
      no q t eq e = let z : None ≡ Some t = sym (ap (option_map (λ (n : Node). n.rec)) none) ∙ ap (recs w) (sym eq) ∙ e in cc

      bare : (q : ℕ) (t : SuspState) → q ≡ p → state_at w q ≡ Some t → ⊥
      bare q t eq e = let z : None ≡ Some t = sym (ap (option_map (λ (n : Node). n.state)) none) ∙ ap (state_at w) (sym eq) ∙ e in cc

      same : (t u : SuspState) → Some t ≡ Some u → given_up t ≤ given_up u
      same t u e = let k = one_value t u e in rw k (omega arith)

  -- a place that shows another state shows the same record
  module _ (old : SuspState) (e : node_at w p ≡ Some (record { rec = r; state = old })) where
    pub recs-show : (q : ℕ) → recs (show w p r s) q ≡ recs w q
    recs-show q = ⊎_elim
        (λ eq. rw eq (ap (option_map (λ (n : Node). n.rec)) node-same ∙ sym (ap (option_map (λ (n : Node). n.rec)) e)))
        (λ ne. ap (option_map (λ (n : Node). n.rec)) (node-other q ne)) (cases_eq q p)

    pub recs-show-all : recs (show w p r s) ≡ recs w
    recs-show-all = fun_ext recs-show

    -- and a new state grows a world where the place isn't done and its count doesn't fall
    pub state_grows : kept old ≡ None → given_up old ≤ given_up s → Grows w (show w p r s)
    state_grows open_yet less = record {
      records = λ q t f. recs-show q ∙ f;
      done = λ q t f k. ⊎_elim (λ eq. absurd (gone q t eq f k)) (λ ne. state-other q ne ∙ f) (cases_eq q p);
      given_up = λ q t u f g. ⊎_elim (λ eq. here q t u eq f g) (λ ne. (let z = one_value t u (sym f ∙ sym (state-other q ne) ∙ g) in rw z (omega arith))) (cases_eq q p);
      begun = λ i t f. f;
      ended = λ i t f g. f;
    }
      where
        was : (q : ℕ) (t : SuspState) → q ≡ p → state_at w q ≡ Some t → old ≡ t
        was q t eq f = one_value old t (sym (ap (option_map (λ (n : Node). n.state)) e) ∙ ap (state_at w) (sym eq) ∙ f)

        gone : (q : ℕ) (t : SuspState) → q ≡ p → state_at w q ≡ Some t → is_some (kept t) ≡ true → ⊥
        gone q t eq f k = let z : kept t ≡ None = ap kept (sym (was q t eq f)) ∙ open_yet in let y : false ≡ true = sym (ap is_some z) ∙ k in cc

        here : (q : ℕ) (t u : SuspState) → q ≡ p → state_at w q ≡ Some t → state_at (show w p r s) q ≡ Some u → given_up t ≤ given_up u
        here q t u eq f g =
            let a = was q t eq f in
            let b = one_value s u (sym state-same ∙ ap (state_at (show w p r s)) (sym eq) ∙ g) in
            rw (← a, ← b) less
