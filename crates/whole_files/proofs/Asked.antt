-- What is asked of files while a path is read or written whole.
use Rattle.std.proofs.Common.{◌≡◌, ℕ, ◌≤◌, List, [], ◌∷◌, ◌++◌, drop, ap, sym, subst, ◌∙◌}
use Rattle.std.proofs.Common.{append_assoc}
use Rattle.std.specs.Prelude.{Option, Some, None}
use Rattle.std.proofs.lemmas.List.{append-nil}
use Rattle.outside_io.specs.Calls.{Call, ReadCall, BeginCall, AppendCall, followed_by_call}
use Rattle.whole_files.specs.Requests.{Since, least_room, AreRoomyReads, no_reads, one_more_read}
use Rattle.whole_files.specs.Requests.{OfferAll, begun, one_more_append, AreWholeOffers}

-- nothing was asked since now
nothing_asked : (P : List Call → Type 0) (now : Option (List Call)) → P [] → Since P now now
nothing_asked P None p = tt
nothing_asked P (Some before) p = ([], ap Some (sym (append-nil before)), p)

-- one more call
one_more_asked : (P Q : List Call → Type 0) (call : Call) (old now new : Option (List Call))
    → Since P old now → new ≡ followed_by_call call now
    → ((calls : List Call) → P calls → Q (calls ++ call ∷ [])) → Since Q old new
one_more_asked P Q call None now new since e goes_on = tt
one_more_asked P Q call (Some before) now new since e goes_on = (
  since.0 ++ call ∷ [],
  e ∙ ap (followed_by_call call) since.1 ∙ ap Some (append_assoc before since.0 (call ∷ [])),
  goes_on since.0 since.2,
)

-- no read yet
pub no_reads_yet : (path : List ℕ) (now : Option (List Call)) → Since (AreRoomyReads path) now now
no_reads_yet path now = nothing_asked (AreRoomyReads path) now no_reads

-- one more read, with enough room
pub read_with_room : (path : List ℕ) (room : ℕ) (old now new : Option (List Call))
    → Since (AreRoomyReads path) old now
    → new ≡ followed_by_call (ReadCall path room) now → least_room ≤ room
    → Since (AreRoomyReads path) old new
read_with_room path room old now new since e enough =
    one_more_asked (AreRoomyReads path) (AreRoomyReads path) (ReadCall path room) old now new since
    e
    (λ calls reads. one_more_read calls room reads enough)

-- the path is begun
pub begun_with : (path bytes : List ℕ) (old new : Option (List Call))
    → new ≡ followed_by_call (BeginCall path) old
    → Since (λ calls. OfferAll path bytes calls bytes) old new
begun_with path bytes None new e = tt
begun_with path bytes (Some before) new e = (BeginCall path ∷ [], e, begun)

-- all that is left is offered
pub offered : (path bytes left later : List ℕ) (taken : ℕ) (old now new : Option (List Call))
    → Since (λ calls. OfferAll path bytes calls left) old now
    → new ≡ followed_by_call (AppendCall path left taken) now
    → later ≡ drop taken left → Since (λ calls. OfferAll path bytes calls later) old new
offered path bytes left later taken old now new since e behind =
    one_more_asked (λ calls. OfferAll path bytes calls left)
    (λ calls. OfferAll path bytes calls later) (AppendCall path left taken)
    old now new since e
    (λ calls offers. subst (OfferAll path bytes (calls ++ AppendCall path left taken ∷ []))
    (sym behind) (one_more_append calls left taken offers))

-- whatever is left, the calls are those of a writing
pub some_offers : (path bytes left : List ℕ) (old new : Option (List Call))
    → Since (λ calls. OfferAll path bytes calls left) old new
    → Since (AreWholeOffers path bytes) old new
some_offers path bytes left None new since = tt
some_offers path bytes left (Some before) new since = (since.0, since.1, (left, since.2))
