-- A stored word that sets a row, or none: the rows stay a legal history, and what they say of roots and of places looked at.
use Rattle.std.proofs.Common.{◌≡◌, ℕ, refl, sym, ap, ◌∙◌, subst, Bool, true, false, not, cond, ◌||◌, ⊎_elim, Option, Some, None}
use Rattle.std.proofs.lemmas.Bool.{cases_eq}
use mathlib.Core.Path.{fun_ext}
use Rattle.std.specs.Prelude.{is_some}
use Rattle.lazy_rec.specs.declared.events.Reply.{Reply}
use Rattle.lazy_rec.specs.Named.{Records}
use Rattle.lazy_rec.specs.Kinds.{is_trim}
use Rattle.lazy_rec.specs.Tests.{is_some_and}
use Rattle.lazy_rec.specs.History.{is_second, event_of, has_smaller_bases, is_of_its_kind}
use Rattle.heap_store.specs.declared.versions.Version.{Version}
use Rattle.heap_store.specs.World.{World, recs, holds}
use Rattle.heap_store.specs.Rows.{Row, NamedRows, Ending, not_ended, answered, full, memory, no_base, first_of, second_of, version_of, reply_of, version_at, row_at, is_ended, events_of, store_word}
use Rattle.heap_store.specs.Legal.{IsHistory, IsLegal, FollowsPlan, is_begun_well, row_in_range}
use Rattle.heap_store.specs.Lawful.{is_root}
use Rattle.heap_store.specs.LookedAt.{RootsOf, HasRoots, row_has_looked}
use Rattle.heap_store.specs.Hand.{contains}
use Rattle.heap_store.specs.View.{View, IsLawfulView}
use Rattle.heap_store.proofs.HistoryLaws.{RowWell, answered_bases, set_keeps, either, either_version, history_set}
use Rattle.version_book.specs.RowSteps.{IsPlanned}
use Rattle.version_book.proofs.WordLaws.{row-other, recs-store, roots-store}
use Rattle.version_book.proofs.GrownRows.{looked_stays}

-- an ending without a reply has no version
no_versions : (e : Ending) → reply_of e ≡ None → (first_of e ≡ None) × (second_of e ≡ None)
no_versions (answered told v w) h = absurd (none_some (sym h))
  where
    none_some : {X : Type 0} {x : X} → None ≡ Some x → ⊥
    none_some z = cc
no_versions not_ended h = (refl, refl)
no_versions (full _ _) h = (refl, refl)
no_versions memory h = (refl, refl)
no_versions no_base h = (refl, refl)

no_version : (n : ℕ) (e : Ending) (v : Version) → reply_of e ≡ None → version_of n e ≡ Some v → ⊥
no_version n e v h z = let k = no_versions e h in by (is_second n) (rw (k.0, k.1) at z)
  where
    by : (b : Bool) → cond {A = Option Version} b None None ≡ Some v → ⊥
    by true y = cc
    by false y = cc

-- a row without a reply is well where its event may come
pub unanswered_well : (rs : Records) (rows : NamedRows) (n : ℕ) (r : Row) → reply_of r.ending ≡ None → row_in_range r ≡ true → is_trim r.event ≡ true → has_smaller_bases n r.event ≡ true → is_begun_well rows r ≡ true → (not r.begun || is_of_its_kind (events_of rows) r.event) ≡ true → RowWell rs rows n r
unanswered_well rs rows n r none range trim smaller begun kind =
    let k = no_versions r.ending none in
    record {
      range = range;
      trim = trim;
      smaller = smaller;
      begun = begun;
      kind = kind;
      second = rw (k.0, k.1) refl;
      version = λ m v z. absurd (no_version m r.ending v none z);
      reply = λ told z. absurd (no_reply (sym none ∙ z));
      meaning = λ m v z. absurd (no_version m r.ending v none z);
    }
  where
    no_reply : {told : Reply} → None ≡ Some told → ⊥
    no_reply z = cc

-- what a row says of its roots, and of what its event has looked at
pub record IsRooted (w : World) (r : Row) : Type 0 where
  pub roots : (m : ℕ) (v : Version) → version_of m r.ending ≡ Some v → holds (recs w) v.root.0 (is_root (recs w) v.kind v.root.0) ≡ true
  pub looked : (told : Reply) → reply_of r.ending ≡ Some told → row_has_looked w (row_at w) r.event told (version_at (row_at w) r.event.base) ≡ true

-- a row without a reply says nothing of them
pub unanswered_rooted : (w : World) (r : Row) → reply_of r.ending ≡ None → IsRooted w r
unanswered_rooted w r none = record {
  roots = λ m v z. absurd (no_version m r.ending v none z);
  looked = λ told z. absurd (no_reply (sym none ∙ z));
}
  where
    no_reply : {told : Reply} → None ≡ Some told → ⊥
    no_reply z = cc

-- a row is set over the same places
module _ (w : World) (rows' : NamedRows) (legal : IsLegal w) (n : ℕ) (r : Row)
    (open_yet : (t : Row) → row_at w n ≡ Some t → is_ended t.ending ≡ false) (here : rows' n ≡ Some r) (others : (i : ℕ) → (i ≡ n → ⊥) → rows' i ≡ row_at w i) (well : RowWell (recs w) (row_at w) n r) where
  looked_up : (t : Row) (told : Reply) → reply_of t.ending ≡ Some told → is_begun_well (row_at w) t ≡ true
      → row_has_looked w (row_at w) t.event told (version_at (row_at w) t.event.base) ≡ true → row_has_looked w rows' t.event told (version_at rows' t.event.base) ≡ true
  looked_up t told f begun = looked_stays w w (row_at w) rows' (set_keeps (recs w) (row_at w) rows' legal n r open_yet here others well) (λ op reply root other h. h) t.event told
      (answered_bases (row_at w) t begun (ap is_some f))

  roots_set : RootsOf w (row_at w) → IsRooted w r → RootsOf w rows'
  roots_set old new = record {
    roots = either_version (recs w) (row_at w) rows' legal n r open_yet here others well (λ m v. holds (recs w) v.root.0 (is_root (recs w) v.kind v.root.0) ≡ true)
        (λ m eq v f. new.roots m v f) old.roots;
    looked = either (recs w) (row_at w) rows' legal n r open_yet here others well (λ i t. (told : Reply) → reply_of t.ending ≡ Some told → row_has_looked w rows' t.event told (version_at rows' t.event.base) ≡ true)
        (λ told f. looked_up r told f well.begun (new.looked told f))
        (λ i t e told f. looked_up t told f (legal.begun i t e) (old.looked i t e told f));
  }

-- ---- stored words

legal-store : (w : World) (name i v : ℕ) (rows : NamedRows) → IsHistory (recs w) rows → row_at (store_word w name i v) ≡ rows → IsLegal (store_word w name i v)
legal-store w name i v rows h e =
    let P : NamedRows → Type 0 = λ rs. IsHistory (recs w) rs in
    let Q : Records → Type 0 = λ rs. IsHistory rs (row_at (store_word w name i v)) in
    subst Q (sym (recs-store w name i v)) (subst P (sym e) h)

roots-stored : (w : World) (name i v : ℕ) (rows : NamedRows) → RootsOf w rows → row_at (store_word w name i v) ≡ rows → HasRoots (store_word w name i v)
roots-stored w name i v rows h e =
    let P : NamedRows → Type 0 = λ rs. RootsOf w rs in
    roots-store w name i v (row_at (store_word w name i v)) (subst P (sym e) h)

-- with the word the rows are well
pub record StoresWell (v : View) (name i value : ℕ) : Type 0 where
  pub legal : IsLegal (store_word v.seen name i value)
  pub roots : HasRoots (store_word v.seen name i value)
  pub plan : FollowsPlan v.about.plan (row_at (store_word v.seen name i value))

-- a word that doesn't change what its row is
pub same_stores : (v : View) (name i value : ℕ) → IsLawfulView v → row_at (store_word v.seen name i value) name ≡ row_at v.seen name → StoresWell v name i value
same_stores v name i value law same =
    let rows : row_at (store_word v.seen name i value) ≡ row_at v.seen = fun_ext (λ m. ⊎_elim (λ eq. rw eq same) (λ ne. row-other v.seen name i value m ne) (cases_eq m name)) in
    record {
      legal = legal-store v.seen name i value (row_at v.seen) law.legal rows;
      roots = roots-stored v.seen name i value (row_at v.seen) law.roots rows;
      plan = subst (FollowsPlan v.about.plan) (sym rows) law.plan;
    }

-- a word with which the row of a name in hand is this one
pub set_stores : (v : View) (name i value : ℕ) (r : Row) → IsLawfulView v → contains v.hand.names name ≡ true → row_at (store_word v.seen name i value) name ≡ Some r
    → RowWell (recs v.seen) (row_at v.seen) name r → IsRooted v.seen r → IsPlanned v.about.plan name r.event → StoresWell v name i value
set_stores v name i value r law drawn here well rooted planned =
    let rows' : NamedRows = row_at (store_word v.seen name i value) in
    let others : (m : ℕ) → (m ≡ name → ⊥) → row_at (store_word v.seen name i value) m ≡ row_at v.seen m = row-other v.seen name i value in
    let open_yet : (t : Row) → row_at v.seen name ≡ Some t → is_ended t.ending ≡ false = λ t z. sym (ap (is_some_and (λ (u : Row). is_ended u.ending)) z) ∙ (law.hand.names name drawn).1 in
    record {
      legal = legal-store v.seen name i value (row_at (store_word v.seen name i value)) (history_set (recs v.seen) (row_at v.seen) (row_at (store_word v.seen name i value)) law.legal name r open_yet here others well) refl;
      roots = roots-stored v.seen name i value (row_at (store_word v.seen name i value)) (roots_set v.seen (row_at (store_word v.seen name i value)) law.legal name r open_yet here others well law.roots rooted) refl;
      plan = λ events p. either (recs v.seen) (row_at v.seen) (row_at (store_word v.seen name i value)) law.legal name r open_yet here others well (λ m t. event_of events m ≡ Some t.event) (planned events p) (law.plan events p);
    }
