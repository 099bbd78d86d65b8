-- A begin and an append of files in memory, as a change of what each path holds.
use Rattle.std.proofs.Common.{◌≡◌, ◌≢◌, ◌⊎◌, ℕ, List, [], ◌++◌, take, Option, Some, None, Result}
use Rattle.std.proofs.Common.{Ok, Err, OnOk, OnErr, IfOk, is_ok, is_some, if◌then◌else◌, unwrap_or}
use Rattle.std.proofs.Common.{refl, sym, ap, subst, ◌∙◌, inl, inr}
use Rattle.outside_io.specs.Files.{Holding, Bytes, Leaves, LeavesOthers, replaced_by, followed_by}
use Rattle.outside_io.specs.Memory.{Memory, bytes_at, with_bytes, holding_of, begun, appended}
use Rattle.outside_io.specs.Memory.{write_failed}
use Rattle.outside_io.proofs.Paths.{bytes_at-with_bytes, bytes_at-with_bytes_other}

-- what each path of a memory holds
abbrev pub holds : Memory → List ℕ → Holding
holds m path = holding_of (bytes_at m.paths path)

module _ (old new : Memory) (path bytes : List ℕ)
    (change : new.paths ≡ with_bytes old.paths path bytes) where
  -- the path has the bytes
  pub changed-path : holds new path ≡ Bytes bytes
  changed-path = ap (λ paths. holding_of (bytes_at paths path)) change
      ∙ ap holding_of (bytes_at-with_bytes old.paths path bytes)

  -- and no other is touched
  pub changed-others : LeavesOthers path (holds old) (holds new)
  changed-others other ne =
      inr (ap (λ paths. holding_of (bytes_at paths other)) change
      ∙ ap holding_of (bytes_at-with_bytes_other old.paths path bytes other ne))

replaced : (o : Option (List ℕ)) (bytes : List ℕ) → replaced_by bytes (holding_of o) ≡ Bytes bytes
replaced None bytes = refl
replaced (Some _) bytes = refl

-- a begin empties its path
pub begun-path : (m : Memory) (path : List ℕ)
    → Leaves (replaced_by [] (holds m path)) (holds (begun m path) path)
begun-path m path = inr (changed-path m (begun m path) path [] refl
    ∙ sym (replaced (bytes_at m.paths path) []))

pub begun-others : (m : Memory) (path : List ℕ) → LeavesOthers path (holds m) (holds (begun m path))
begun-others m path = changed-others m (begun m path) path [] refl

followed : (o : Option (List ℕ)) (bytes : List ℕ)
    → followed_by bytes (holding_of o) ≡ Bytes (unwrap_or o [] ++ bytes)
followed None bytes = refl
followed (Some _) bytes = refl

-- an append adds its bytes
pub appended-path : (m : Memory) (path bytes : List ℕ)
    → Leaves (followed_by bytes (holds m path)) (holds (appended m path bytes) path)
appended-path m path bytes =
    inr (changed-path m (appended m path bytes) path (unwrap_or (bytes_at m.paths path) [] ++ bytes)
    refl
    ∙ sym (followed (bytes_at m.paths path) bytes))

pub appended-others : (m : Memory) (path bytes : List ℕ)
    → LeavesOthers path (holds m) (holds (appended m path bytes))
appended-others m path bytes = changed-others m (appended m path bytes) path
    (unwrap_or (bytes_at m.paths path) [] ++ bytes) refl

-- other than a path
same-others : (m new : Memory) (path : List ℕ) → new.paths ≡ m.paths
    → LeavesOthers path (holds m) (holds new)
same-others m new path e other ne = inr (ap (λ paths. holding_of (bytes_at paths other)) e)

module _ {T E : Type 0} (old new : Memory) (path : List ℕ) where
  pub begin-path : (r : Result T E) → new ≡ (if is_ok r then begun old path else write_failed old)
      → OnOk r (Leaves (replaced_by [] (holds old path)) (holds new path))
  begin-path (Ok x) e = let P : Memory → Type 0
      = λ m. Leaves (replaced_by [] (holds old path)) (holds m path)
      in subst P (sym e) (begun-path old path)
  begin-path (Err x) e = tt

  pub begin-others : (r : Result T E) → new ≡ (if is_ok r then begun old path else write_failed old)
      → LeavesOthers path (holds old) (holds new)
  begin-others (Ok x) e = let P : Memory → Type 0 = λ m. LeavesOthers path (holds old) (holds m)
      in subst P (sym e) (begun-others old path)
  begin-others (Err x) e = same-others old new path (ap (λ (m : Memory). m.paths) e)

module _ {E : Type 0} (old new : Memory) (path : List ℕ) where
  pub append-path : (bytes : List ℕ) (r : Result ℕ E)
      → IfOk r (λ n. new ≡ appended old path (take n bytes))
      → IfOk r (λ n. Leaves (followed_by (take n bytes) (holds old path)) (holds new path))
  append-path bytes (Ok n) e = let P : Memory
      → Type 0 = λ m. Leaves (followed_by (take n bytes) (holds old path)) (holds m path)
      in subst P (sym e) (appended-path old path (take n bytes))
  append-path bytes (Err x) e = tt

  pub append-others : (bytes : List ℕ) (r : Result ℕ E)
      → IfOk r (λ n. new ≡ appended old path (take n bytes)) → OnErr r (new ≡ write_failed old)
      → LeavesOthers path (holds old) (holds new)
  append-others bytes (Ok n) e h = let P : Memory
      → Type 0 = λ m. LeavesOthers path (holds old) (holds m)
      in subst P (sym e) (appended-others old path (take n bytes))
  append-others bytes (Err x) e h = same-others old new path (ap (λ (m : Memory). m.paths) h)
