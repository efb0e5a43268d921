-- What the desk of a conversion keeps, and what it writes for a line of the process.
use Rattle.std.specs.Prelude.{◌≡◌, ◌<◌, ℕ, true, false, List, [], ◌∷◌, ◌++◌, Option, Some, None, length, option_map}
use Rattle.sap_terms.specs.Signature.{Sig}
use Rattle.sap_terms.specs.View.{tree}
use Rattle.sap_terms.specs.declared.binding.Binding.{Binding}
use Rattle.sap_terms.specs.declared.term.Term.{Term}
use Rattle.sap_process.specs.Configuration.{Config}
use Rattle.sap_process.specs.Proc.{Proc, replicated}
use Rattle.sap_runs.specs.declared.process_step.PStep.{PStep}
use Rattle.sap_runs.specs.declared.process_step.PStep.TheVariants.{Found}
use Rattle.sap_runs.specs.declared.rule_step.RStep.{RStep}
use Rattle.sap_runs.specs.declared.rule_step.RStep.TheVariants.{Rule as RuleLine}
use Rattle.sap_lines.specs.Places.{proc_at, procs_of, IsRooted}
use Rattle.sap_lines.specs.declared.place.Place.{Place}
use Rattle.sap_translate.specs.relation.Agents.{Agent, unborn, running, copying, awaiting, received}
use Rattle.sap_rule_lines.specs.Least.{is_among}
use Rattle.sap_forward.specs.Tables.{RuleTables}
use Rattle.sap_forward.specs.Written.{IsWrittenAsRules}
use Rattle.sap_forward.specs.declared.desk.Desk.{Desk}
use Rattle.sap_forward.specs.declared.seats.Seat.{Seat}

-- the seat is at a place at which this process stands, with this path, under number k
pub record SitsAt (places : List Place) (path : List ℕ) (body : Proc) (k : ℕ) (s : Seat) : Type 0 where
  pub below : s.place < length places
  pub proc : proc_at (procs_of places) s.place ≡ body
  pub way : s.path ≡ path
  pub number : s.number ≡ k

-- the seat is that of a thread at which the agent says, whose fact has number k; there is none where there is no thread
abbrev pub IsSeat : List Place → Option Agent → ℕ → Option Seat → Type 0
IsSeat places None k o = o ≡ None
IsSeat places (Some (unborn body)) k o = Unit {0}
IsSeat places (Some (running path env body)) k o = (s : Seat) × (o ≡ Some s) × SitsAt places path body k s × (s.copying ≡ false)
IsSeat places (Some (copying path env body)) k o = (s : Seat) × (o ≡ Some s) × SitsAt places path (replicated body) k s × (s.copying ≡ true)
IsSeat places (Some (awaiting path env m n x y body g)) k o = Unit {0}
IsSeat places (Some (received path env m n body g)) k o = Unit {0}

-- each is that of its thread, under its number
abbrev pub AreSeats : List Place → List (Option Agent) → List ℕ → List (Option Seat) → Type 0
AreSeats places [] [] [] = Unit {0}
AreSeats places (a ∷ agents) (k ∷ numbers) (o ∷ seats) = IsSeat places a k o × AreSeats places agents numbers seats
AreSeats places agents numbers seats = ⊥

-- the desk keeps what these agents, these tables and these names say, of a run of the start process
pub record Keeps (start : Proc) (drawn : List ℕ) (agents : List (Option Agent)) (tables : RuleTables) (d : Desk) : Type 0 where
  pub root : ℕ
  pub places : IsRooted d.places root start
  pub seats : AreSeats d.places agents tables.threads d.seats
  pub facts : d.facts ≡ tables.facts
  pub count : d.count ≡ tables.count
  pub next : d.next ≡ tables.next
  pub names : (n : ℕ) → is_among d.names n ≡ is_among drawn n

-- what a line `found` binds, which these lines of rules bind, is what was found
abbrev pub BindsFound : Option Term → PStep → List RStep → Type 0
BindsFound found (Found t) ls = (name ks : List ℕ) (b : Binding) → ls ≡ RuleLine name ks (b ∷ []) ∷ [] → option_map tree found ≡ Some (tree b.term)
BindsFound found step ls = Unit {0}

-- where some lines are those that are written for this line of the process, they have been put last, and the desk keeps what they
-- lead to
abbrev pub WritesRules : Desk → Desk → PStep → Option Term → List RStep → List RStep → Type 0
WritesRules d e step found before after =
    (g : Sig) (start : Proc) (drawn : List ℕ) (agents later : List (Option Agent)) (c : Config) (tables behind : RuleTables) (ls : List RStep)
    → Keeps start drawn agents tables d → IsWrittenAsRules g drawn agents c tables step ls later behind → BindsFound found step ls
    → (after ≡ before ++ ls) × Keeps start drawn later behind e
