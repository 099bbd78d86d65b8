-- What it means that a call meets a definition which may refuse.
use Rattle.std.specs.Prelude.{◌≡◌, Result, Ok, Err}
use Rattle.refusal_codes.specs.declared.refusal.Refusal.{Refusal}
use Rattle.refusal_codes.specs.declared.errors.ReadError.{ReadError}
use Rattle.refusal_codes.specs.declared.errors.ReadError.TheVariants as read_errors
use Rattle.refusal_codes.specs.declared.errors.CompileError.{CompileError}
use Rattle.refusal_codes.specs.declared.errors.CompileError.TheVariants as compile_errors

-- the definition gives this refusal, unless memory ran out
abbrev pub RefusesRead : {Y : Type 0} → ReadError → Result Y Refusal → Type 0
RefusesRead (read_errors.Refused r) definition = definition ≡ Err r
RefusesRead read_errors.NoMemory definition = Unit {0}

-- what a reading call answered, seen by view, is what the definition gives, unless memory ran out
abbrev pub Gives : {X Y : Type 0} → (X → Y) → Result X ReadError → Result Y Refusal → Type 0
Gives view (Ok x) definition = definition ≡ Ok (view x)
Gives view (Err e) definition = RefusesRead e definition

-- the same of a compiling call
abbrev pub RefusesCompile : {Y : Type 0} → CompileError → Result Y Refusal → Type 0
RefusesCompile (compile_errors.Refused r) definition = definition ≡ Err r
RefusesCompile compile_errors.NoMemory definition = Unit {0}

abbrev pub Compiles : {X Y : Type 0} → (X → Y) → Result X CompileError → Result Y Refusal → Type 0
Compiles view (Ok x) definition = definition ≡ Ok (view x)
Compiles view (Err e) definition = RefusesCompile e definition

-- a reading call's error as a compiling call's
abbrev pub compile_error_of : ReadError → CompileError
compile_error_of (read_errors.Refused r) = compile_errors.Refused r
compile_error_of read_errors.NoMemory = compile_errors.NoMemory

-- what a definition that may refuse gives, handed on to another one
infixl 10 ◌>>=◌
abbrev pub ◌>>=◌ : {A B : Type 0} → Result A Refusal → (A → Result B Refusal) → Result B Refusal
(Ok x) >>= f = f x
(Err r) >>= f = Err r
