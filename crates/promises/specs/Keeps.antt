-- What it is that a public call keeps its contract, said of the code that the compiler makes of it, in the terms of the kit's program logic: a caller brings nothing
-- but arguments of the parameters' types, the call ends, and what the contract says holds of the answer and of what the parameters hold then.
use Rattle.std.specs.Prelude.{List, ◌≡◌, ℕ}
use seplogic.Ra.Ura.{Ura}
use prog.Model.{Model}
use prog.Wired.{Code, Wired}
use types.Logic.{Logic}
use mir.Syntax.{Callee}
use contract.Lifetimes.{Lfts}
use contract.Notation.{connectives}
use contract.Running.{Running}
use denote.Triple.Entry.{Args, Res}
use denote.Triple.Clauses.{Ended, Clauses, Lasts, AtExit, at_exit, closing}
use denote.Triple.Spec.{Meets}

-- A contract, over the lifetimes, the arguments, the answer, and the parameters at exit. `Ended` is the kit's word for a signature.
abbrev pub Says : Ended → Type 1
Says T = (κs : Lfts T.signature.lifetimes) → Args T.signature κs → Res T.signature κs → AtExit T κs → Type 0

-- as the kit's clauses: nothing is asked (`requires` is the assertion that holds of nothing at all), and the contract is what is ensured
abbrev pub plain : {M : Type 1} (𝓤 : Ura M) (T : Ended) → Says T → Clauses 𝓤 T
plain 𝓤 T says κs a = record { ghost = Unit {0}; requires = λ g. (connectives 𝓤).⊤ₛ; ensures = λ g r e. (connectives 𝓤).⌜◌⌝ (says κs a r e) }

-- The code of a function, with that of all that it calls: the one that the check's theorem of the function is about. No other crate can name it, so it is taken from there.
abbrev pub code_of : (code : Code) {P : (M : Type 1) (𝓤 : Ura M) (𝓛 : Logic 𝓤) (𝓜 : Model 𝓤 𝓛.H) (𝓡 : Running 𝓤 𝓛.H 𝓜) → Type 1}
    → ((M : Type 1) (𝓤 : Ura M) (𝓛 : Logic 𝓤) (𝓜 : Model 𝓤 𝓛.H) (𝓡 : Running 𝓤 𝓛.H 𝓜) → Wired 𝓡.env code → P M 𝓤 𝓛 𝓜 𝓡) → Code
code_of code met = code

-- what the routine of this name does meets it, in every model of the machine and in every environment that has the code
abbrev pub Keeps : (T : Ended) → Callee → Code → Says T → Type 2
Keeps T name code says =
    (M : Type 1) (𝓤 : Ura M) (𝓛 : Logic 𝓤) (𝓜 : Model 𝓤 𝓛.H) (𝓡 : Running 𝓤 𝓛.H 𝓜)
    → Wired 𝓡.env code → Meets 𝓛 T.signature (𝓡.run (𝓡.env name)) (closing 𝓛 T (plain 𝓤 T says))

-- Any two outcomes that a contract allows are equal: what is shown of the answer, and what each table that is lent to write in holds last.
abbrev pub One : (T : Ended) {A : Lfts T.signature.lifetimes → Type 0} → ((κs : Lfts T.signature.lifetimes) → Res T.signature κs → A κs) → Says T → Type 0
One T shown says =
    (κs : Lfts T.signature.lifetimes) (a : Args T.signature κs) (r q : Res T.signature κs) (ws vs : Lasts T κs a)
    → says κs a r (at_exit T κs a ws) → says κs a q (at_exit T κs a vs) → (shown κs r ≡ shown κs q) × (ws ≡ vs)

-- A public call: its signature, its name, its code and its contract. One that hands out a slice is told by the bytes of it, since where these stand in memory is no value
-- of the rules. Of one that is lent tables to write in it is also said when each holds what it held, over the arguments, the answer and what the tables hold last.
pub data Public : Type 2 where
  call : (T : Ended) → Callee → Code → Says T → Public
  shows : (T : Ended) → Callee → Code → ((κs : Lfts T.signature.lifetimes) → Res T.signature κs → List ℕ) → Says T → Public
  lends : (T : Ended) → Callee → Code → Says T → ((κs : Lfts T.signature.lifetimes) (a : Args T.signature κs) → Res T.signature κs → Lasts T κs a → Type 0) → Public

pub record Call (T : Ended) (name : Callee) (code : Code) (says : Says T) : Type 2 where
  pub keeps : Keeps T name code says
  pub one : One T (λ κs r. r) says

pub record Shows (T : Ended) (name : Callee) (code : Code) (shown : (κs : Lfts T.signature.lifetimes) → Res T.signature κs → List ℕ) (says : Says T) : Type 2 where
  pub keeps : Keeps T name code says
  pub one : One T shown says

pub record Lends (T : Ended) (name : Callee) (code : Code) (says : Says T)
    (unwritten : (κs : Lfts T.signature.lifetimes) (a : Args T.signature κs) → Res T.signature κs → Lasts T κs a → Type 0) : Type 2 where
  pub keeps : Keeps T name code says
  pub one : One T (λ κs r. r) says
  pub nothing : (κs : Lfts T.signature.lifetimes) (a : Args T.signature κs) (r : Res T.signature κs) (ws : Lasts T κs a)
      → says κs a r (at_exit T κs a ws) → unwritten κs a r ws

-- what is promised of a public call: it keeps its contract and asks nothing, the contract leaves one outcome, and a refusal has written nothing
abbrev pub Holds : Public → Type 2
Holds (call T name code says) = Call T name code says
Holds (shows T name code shown says) = Shows T name code shown says
Holds (lends T name code says unwritten) = Lends T name code says unwritten
