-- What is asked of files while a path is read or written whole, where they tell it. fontc's own.
use Rattle.std.specs.Prelude.{◌≡◌, ℕ, ◌≤◌, List, [], ◌∷◌, ◌++◌, drop, Option, Some, IfSome}
use Rattle.outside_io.specs.Calls.{Call, ReadCall, BeginCall, AppendCall}

-- the calls since an earlier moment are so, where they were told then
abbrev pub Since : (List Call → Type 0) → Option (List Call) → Option (List Call) → Type 0
Since P old new = IfSome old (λ before. (since : List Call) × (new ≡ Some (before ++ since))
    × P since)

-- the least room that a read offers, in bytes
abbrev pub least_room : ℕ
least_room = 4096

-- each of these calls is a read of this path that offers at least the least room
pub data AreRoomyReads (path : List ℕ) : List Call → Type 0 where
  no_reads : AreRoomyReads path []
  one_more_read : (calls : List Call) (room : ℕ) → AreRoomyReads path calls → least_room ≤ room
      → AreRoomyReads path (calls ++ ReadCall path room ∷ [])

-- These calls begin this path, and then offer it bytes, each append all that the calls before it
-- have left: behind them these bytes are left.
pub data OfferAll (path bytes : List ℕ) : List Call → List ℕ → Type 0 where
  begun : OfferAll path bytes (BeginCall path ∷ []) bytes
  one_more_append : (calls : List Call) (left : List ℕ) (taken : ℕ) → OfferAll path bytes calls left
      → OfferAll path bytes (calls ++ AppendCall path left taken ∷ []) (drop taken left)

-- these calls are the writing of these bytes to this path, up to some moment
abbrev pub AreWholeOffers : List ℕ → List ℕ → List Call → Type 0
AreWholeOffers path bytes calls = (left : List ℕ) × OfferAll path bytes calls left
