-- What the steps on names and rows come to, as views.
use Rattle.std.proofs.Common.{◌≡◌, ◌≢◌, ℕ, zero, suc, ◌+◌, ◌<◌, ◌≤◌, List, refl, sym, ap, ap₂, ◌∙◌, arith, subst, Bool, true, false, cond, eqb, Option, Some, None, ⊎_elim}
use Rattle.std.specs.Prelude.{slice_index, slice_set, is_some}
use Rattle.std.proofs.lemmas.Bool.{true≢false, cases_lt}
use Rattle.std.proofs.lemmas.List.{get_or-set_same, get_or-set_other}
use mathlib.Core.Option.{none}
use Rattle.atomic_table.specs.Table.{step}
use Rattle.heap_store.specs.declared.claims.Full.{Full}
use Rattle.heap_store.specs.declared.claims.NamesFull.{NamesFull}
use Rattle.heap_store.specs.World.{World}
use Rattle.heap_store.specs.Rows.{Row, row_at, word_at, store_word}
use Rattle.heap_store.specs.RowCalls.{NameDrawn, NoName, MayStore, Stored, vain_after, ends_row, hand_stored, begins_row}
use Rattle.heap_store.specs.Hand.{Hand, contains, hand_named, hand_mine}
use Rattle.heap_store.specs.View.{View, About, Quiet}
use Rattle.heap_store.proofs.GrowthLaws.{grows_trans}
use Rattle.heap_store.proofs.Steps.{words_trans, alone_of}
use Rattle.heap_store.proofs.PlainRows.{hand_if}
use Rattle.word_world.specs.Words.{row_word_at}
use Rattle.word_world.proofs.Worlds.{count_world}
use Rattle.word_world.proofs.WordSteps.{stored_world}
use Rattle.word_store.specs.declared.sight.Sight.{Sight}
use Rattle.word_store.specs.declared.pass.Pass.{Pass}
use Rattle.word_store.specs.Rule.{seen_by}
use Rattle.word_store.specs.Plays.{Looked, DrewName, StoredWord, row_hand}
use Rattle.word_store.specs.Passes.{view_of, Stays, slots_of}
use Rattle.word_store.proofs.Views.{alone_is}
use Rattle.word_store.proofs.PassSteps.{one_of}
use Rattle.word_store.proofs.PassReads.{row_word_is}
use Rattle.word_store.proofs.PassViews.{same_about, exact, seen_is, drawn_is, named_is, own_drawn, own_named}

-- a word of a row that a load found
pub row_read : (p q : Pass) (name j at x : ℕ) → Quiet (view_of p) (view_of q) → 1 ≤ name → name ≤ p.layout.rows → j < 8 → ((i : ℕ) → name ≡ 1 + i → at ≡ row_word_at p.layout.nodes i j) → x ≡ slice_index q.seat.me.0.words at → x ≡ word_at (seen_by q.seat.me.0) name j
row_read p q zero j at x k low high few is found = absurd (omega arith)
row_read p q (suc i) j at x k low high few is found =
    let rows : i < q.seat.me.0.rows = omega (arith, high, p.sized.1, ap (λ (a : About). a.rows) k.about) in
    let place : at ≡ row_word_at q.seat.me.0.nodes i j = is i (omega arith) ∙ ap (λ n. row_word_at n i j) {x = p.layout.nodes} {y = q.seat.me.0.nodes} (omega (arith, p.sized.0, ap (λ (a : About). a.capacity) k.about)) in
    found ∙ (ap (slice_index q.seat.me.0.words) place ∙ sym (row_word_is q.seat.me.0 i j rows few))

-- a name in hand is one of the store's
pub name_high : (p : Pass) (name i value : ℕ) → MayStore (view_of p) name i value → (1 ≤ name) × (name ≤ p.layout.rows)
name_high p name i value may = ((p.sound.hand.names name may.drawn).0, (let l = p.law.names_low name may.drawn in omega (arith, l, p.sized.1)))

-- a number that a load found
pub number_found : (v : Sight) (i x : ℕ) → x ≡ slice_index v.words i → x ≡ cond (eqb v.callers 1) (slice_index v.words i) x
number_found v i x e = by (eqb v.callers 1)
  where
    by : (b : Bool) → x ≡ cond b (slice_index v.words i) x
    by true = e
    by false = refl

-- one that an earlier load found
pub number_kept : (q r : Pass) (st : Rattle.atomic_table.specs.Table.Step ℕ) (y i x : ℕ) → Looked st q.seat.me y r.seat.me → x ≡ slice_index q.seat.me.0.words i → x ≡ cond (eqb r.seat.me.0.callers 1) (slice_index r.seat.me.0.words i) x
number_kept q r st y i x k e = by (eqb r.seat.me.0.callers 1) refl
  where
    by : (b : Bool) → eqb r.seat.me.0.callers 1 ≡ b → x ≡ cond b (slice_index r.seat.me.0.words i) x
    by true f = e ∙ ap (λ (ws : List ℕ). slice_index ws i) (sym (exact q q.seat.me.0.words r.seat.me k.goes (ap (λ z. eqb z 1) (sym (ap (λ (v : Sight). v.callers) k.goes.is)) ∙ f)))
    by false f = refl

-- ---- names

module _ (q r : Pass) (x : ℕ) (k : DrewName (step (slots_of q) 1 1 0 none) q.seat.me x r.seat.me) (s : Stays q r) (some_left : slice_index q.seat.me.0.words 1 < q.layout.rows) where
  abbrev after : List ℕ
  after = slice_set q.seat.me.0.words 1 (x + 1)

  about_kept : (view_of r).about ≡ (view_of q).about
  about_kept = same_about q after r.seat.me k.goes r.caller r.refused r.last r.drawn r.named s.caller

  before : eqb q.seat.me.0.callers 1 ≡ true → slice_index q.seat.me.0.words 1 ≡ x
  before e = k.before (one_of q ∙ sym (alone_is q.seat.me.0 e))

  word1 : slice_index (slice_set q.seat.me.0.words 1 (x + 1)) 1 ≡ x + 1
  word1 = get_or-set_same q.seat.me.0.words 1 (x + 1) 0 (omega (arith, q.sound.wide))

  pub drawn_named : (name : ℕ) → name ≡ suc x → x < q.layout.rows → NameDrawn (view_of q) (view_of r) name
  drawn_named name is room = subst (NameDrawn (view_of q) (view_of r)) (sym is) (record {
    grows = k.goes.grows;
    words = k.kept;
    low = omega arith;
    high = omega (arith, room, q.sized.1);
    unseen = k.unseen;
    empty = k.empty;
    hand = k.some (omega (arith, room, q.sized.1));
    about = about_kept;
    refusals = ap₂ (λ (n : ℕ) (f : Full). record { count = n; last = f }) s.refused s.last;
    alone = λ e. (
      seen_is q after r.seat.me k.goes e ∙ count_world q.seat.me.0.nodes q.seat.me.0.rows q.seat.me.0.words 1 (x + 1) (omega arith),
      drawn_is q after r.seat.me k.goes r.caller r.refused r.last r.drawn r.named e ∙ (get_or-set_other q.seat.me.0.words 1 0 (x + 1) 0 (λ z. omega (arith, z)) ∙ sym (own_drawn q e)),
      omega (arith, own_named q e, before e),
      omega (arith, named_is q after r.seat.me k.goes r.caller r.refused r.last r.drawn r.named e, word1),
    );
  })

  -- no name was left, which a pass that is alone never finds here
  pub none_named : (c : View) → c ≡ record (view_of r) { named = c.named } → x ≤ c.named → q.layout.rows ≤ x → (drawn : ℕ) → drawn ≡ x → NoName (view_of q) c (record { drawn = drawn })
  none_named c is told past drawn same = record {
    grows = subst (λ (v : View). Rattle.heap_store.specs.Growth.Grows (view_of q).seen v.seen) (sym is) k.goes.grows;
    words = subst (λ (v : View). Rattle.heap_store.specs.Hand.KeepsWords (view_of q).hand (view_of q).seen v.seen) (sym is) k.kept;
    hand = ap (λ (v : View). v.hand) is ∙ k.none (omega (arith, past, q.sized.1));
    about = ap (λ (v : View). v.about) is ∙ about_kept;
    refusals = ap (λ (v : View). v.refusals) is ∙ ap₂ (λ (n : ℕ) (f : Full). record { count = n; last = f }) s.refused s.last;
    full = omega (arith, past, q.sized.1, same);
    told = omega (arith, told, same);
    alone = λ e. absurd (let b = before e in omega (arith, b, past, some_left));
  }

-- the number that was found is told
pub name_told : (q r : Pass) (x : ℕ) → DrewName (step (slots_of q) 1 1 0 none) q.seat.me x r.seat.me → x ≤ cond (eqb r.seat.me.0.callers 1) (slice_index r.seat.me.0.words 1) x
name_told q r x k = by (eqb r.seat.me.0.callers 1) refl
  where
    by : (b : Bool) → eqb r.seat.me.0.callers 1 ≡ b → x ≤ cond b (slice_index r.seat.me.0.words 1) x
    by true f = omega (
      arith,
      ap (λ (ws : List ℕ). slice_index ws 1) (exact q (slice_set q.seat.me.0.words 1 (x + 1)) r.seat.me k.goes (ap (λ z. eqb z 1) (sym (ap (λ (v : Sight). v.callers) k.goes.is)) ∙ f)),
      get_or-set_same q.seat.me.0.words 1 (x + 1) 0 (omega (arith, q.sound.wide)),
    )
    by false f = omega arith

-- after a load
pub quiet_named : (p q : Pass) (c : View) (x name : ℕ) → Quiet (view_of p) (view_of q) → slice_index p.seat.me.0.words 1 ≤ x → name ≡ suc x → NameDrawn (view_of q) c name → NameDrawn (view_of p) c name
quiet_named p q c x name k least is f = record {
  grows = grows_trans k.grows f.grows;
  words = words_trans (view_of p).hand (view_of q).hand (view_of p).seen (view_of q).seen c.seen (ap (λ (h : Hand). h.names) k.hand) k.words f.words;
  low = f.low;
  high = subst (λ (y : About). name ≤ y.rows) k.about f.high;
  unseen = unseen;
  empty = f.empty;
  hand = f.hand ∙ ap (λ h. hand_named h name) k.hand;
  about = f.about ∙ k.about;
  refusals = f.refusals ∙ k.refusals;
  alone = λ e. subst (λ (v : View). (c.seen ≡ v.seen) × (c.drawn ≡ v.drawn) × (name ≡ v.named + 1) × (c.named ≡ name)) (k.alone e) (f.alone (alone_of (view_of p) (view_of q) k.about e));
}
  where
    unseen : (i j : ℕ) → word_at (seen_by p.seat.me.0) i j ≢ 0 → i < name
    unseen zero j ne = omega (arith, is)
    unseen (suc m) j ne = ⊎_elim (λ l. omega (arith, l, is)) (λ past. absurd (ne (p.sound.well.undrawn m j (omega (arith, past, least))))) (cases_lt m x)

pub quiet_unnamed : (a b c : View) (n : NamesFull) → Quiet a b → NoName b c n → NoName a c n
quiet_unnamed a b c n q f = record {
  grows = grows_trans q.grows f.grows;
  words = words_trans a.hand b.hand a.seen b.seen c.seen (ap (λ (h : Hand). h.names) q.hand) q.words f.words;
  hand = f.hand ∙ q.hand;
  about = f.about ∙ q.about;
  refusals = f.refusals ∙ q.refusals;
  full = subst (λ (x : About). x.rows ≤ n.drawn) q.about f.full;
  told = f.told;
  alone = λ e. subst (λ (v : View). (c ≡ v) × (n.drawn ≡ v.named)) (q.alone e) (f.alone (alone_of a b q.about e));
}

-- a load found that no name is left
pub none_seen : (p q : Pass) (c : View) (x : ℕ) → Looked (step (slots_of p) 1 0 0 none) p.seat.me x q.seat.me → Quiet (view_of p) c → x ≤ c.named → p.layout.rows ≤ x → (drawn : ℕ) → drawn ≡ x → NoName (view_of p) c (record { drawn = drawn })
none_seen p q c x k quiet told past drawn same = record {
  grows = quiet.grows;
  words = quiet.words;
  hand = quiet.hand;
  about = quiet.about;
  refusals = quiet.refusals;
  full = omega (arith, past, p.sized.1, same);
  told = omega (arith, told, same);
  alone = λ e. (quiet.alone e, same ∙ (k.found ∙ (ap (λ (ws : List ℕ). slice_index ws 1) (exact p p.seat.me.0.words q.seat.me k.goes e) ∙ sym (own_named p e))));
}

-- ---- rows

pub stored_view : (p q : Pass) (i j x : ℕ) → StoredWord (step (slots_of p) (row_word_at p.layout.nodes i j) x 0 none) p.seat.me x q.seat.me → Stays p q → MayStore (view_of p) (suc i) j x → Stored (view_of p) (view_of q) (suc i) j x
stored_view p q i j x k s may =
    let v = p.seat.me.0 in
    let after : List ℕ = slice_set v.words (row_word_at p.layout.nodes i j) x in
    let low = p.sound.names_low i may.drawn in
    let t = k.stored p.caller i j p.number may.word low.0 (ap (λ n. row_word_at n i j) {x = p.layout.nodes} {y = v.nodes} (sym p.sized.0)) in
    record {
      grows = k.goes.grows;
      words = t.0;
      word = t.2;
      hand = t.1 ∙ ap (λ z. hand_mine (Some p.caller) (suc i) j (record (hand_stored (store_word (seen_by v) (suc i) j x) v.hand (suc i) j x) { vain = z })) (sym (vain_is t.1));
      vain = vain_is t.1;
      about = same_about p after q.seat.me k.goes q.caller q.refused q.last q.drawn q.named s.caller;
      refusals = ap₂ (λ (n : ℕ) (f : Full). record { count = n; last = f }) s.refused s.last;
      alone = λ e. (
        seen_is p after q.seat.me k.goes e ∙ (ap (λ n. seen_by (record v { words = slice_set v.words (row_word_at n i j) x })) {x = p.layout.nodes} {y = v.nodes} (sym p.sized.0) ∙ stored_world v.nodes v.rows v.plan v.words p.sound.wide p.sound.well i j x low.0 may.word low.1),
        drawn_is p after q.seat.me k.goes q.caller q.refused q.last q.drawn q.named e ∙ (get_or-set_other v.words (row_word_at p.layout.nodes i j) 0 x 0 (λ z. omega (arith, z)) ∙ sym (own_drawn p e)),
        named_is p after q.seat.me k.goes q.caller q.refused q.last q.drawn q.named e ∙ (get_or-set_other v.words (row_word_at p.layout.nodes i j) 1 x 0 (λ z. omega (arith, z)) ∙ sym (own_named p e)),
        t.1 ∙ ap (λ z. hand_mine (Some p.caller) (suc i) j (record (hand_stored (store_word (seen_by v) (suc i) j x) v.hand (suc i) j x) { vain = z })) (same_vain (begins_row j x) (ends_row j) ((p.sound.alone (alone_is v e)).vain)),
      );
    }
  where
    mine_vain : (h : Hand) → (hand_mine (Some p.caller) (suc i) j h).vain ≡ h.vain
    mine_vain h = refl

    vain_is : q.seat.me.0.hand ≡ row_hand p.seat.me.0 p.caller (suc i) j x → q.seat.me.0.hand.vain ≡ vain_after (ends_row j) (row_at (store_word (seen_by p.seat.me.0) (suc i) j x) (suc i)) p.seat.me.0.hand.vain
    vain_is e = ap (λ (h : Hand). h.vain) e

    if_vain : (b e : Bool) (w : World) (h : Hand) (name : ℕ) → (hand_if b e w h name).vain ≡ h.vain
    if_vain true e w h name = refl
    if_vain false true w h name = refl
    if_vain false false w h name = refl

    none_after : (ended : Bool) (row : Option Row) (o : Option Full) → is_some o ≡ false → vain_after ended row o ≡ o
    none_after ended row None e = refl
    none_after ended row (Some f) e = absurd (true≢false e)

    same_vain : (b e : Bool) → is_some p.seat.me.0.hand.vain ≡ false → vain_after (ends_row j) (row_at (store_word (seen_by p.seat.me.0) (suc i) j x) (suc i)) p.seat.me.0.hand.vain ≡ (hand_stored (store_word (seen_by p.seat.me.0) (suc i) j x) p.seat.me.0.hand (suc i) j x).vain
    same_vain b e idle = none_after (ends_row j) (row_at (store_word (seen_by p.seat.me.0) (suc i) j x) (suc i)) p.seat.me.0.hand.vain idle ∙ sym (if_vain (begins_row j x) (ends_row j) (store_word (seen_by p.seat.me.0) (suc i) j x) p.seat.me.0.hand (suc i))
