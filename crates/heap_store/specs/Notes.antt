-- What a store of one thread has in hand, and what each note makes of it.
use Rattle.std.specs.Prelude.{List, ◌∷◌, true, map}
use Rattle.heap_store.specs.declared.claims.HeldClaim.{HeldClaim}
use Rattle.heap_store.specs.declared.claims.OpenRow.{OpenRow}
use Rattle.heap_store.specs.declared.notes.Notes.{Notes}
use Rattle.heap_store.specs.declared.notes.Note.{Note}
use Rattle.heap_store.specs.declared.notes.Note.TheVariants as note
use Rattle.heap_store.specs.Hand.{fresh_claim, without_claim, mark_newest, is_later}
use Rattle.heap_store.specs.Plain.{rows_after_word}

abbrev pub noted_claims : List HeldClaim → Note → List HeldClaim
noted_claims claims (note.Won s) = fresh_claim s ∷ claims
noted_claims claims (note.Left s) = without_claim s.0 claims
noted_claims claims (note.Put rec) = mark_newest (is_later 0 rec.now) claims
noted_claims claims _ = claims

abbrev pub noted_rows : List OpenRow → Note → List OpenRow
noted_rows rows note.Refused = map (λ (o : OpenRow). record o { refused = true }) rows
noted_rows rows (note.Stored name word value) = rows_after_word name word value rows
noted_rows rows _ = rows

abbrev pub noted : Notes → Note → Notes
noted notes n = record { claims = noted_claims notes.claims n; open_rows = noted_rows notes.open_rows n }
