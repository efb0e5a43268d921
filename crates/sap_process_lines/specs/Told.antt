-- What the desk writes for a line of rules, by its tables alone.
use Rattle.std.specs.Prelude.{◌≡◌, ◌-◌, ℕ, Bool, true, false, List, [], ◌∷◌, ◌++◌, Option, Some, None, if◌then◌else◌, option_map, codes, drop, length, slice_get}
use Rattle.std.specs.Str.{bytes_eq}
use Rattle.sap_terms.specs.declared.binding.Binding.{Binding}
use Rattle.sap_runs.specs.declared.process_step.PStep.{PStep}
use Rattle.sap_runs.specs.declared.process_step.PStep.TheVariants as line
use Rattle.sap_runs.specs.declared.rule_step.RStep.{RStep}
use Rattle.sap_runs.specs.declared.rule_step.RStep.TheVariants.{Fresh, Learn, Own, Public, Apply, Know, Rule}
use Rattle.sap_process_lines.specs.Pending.{pending_lines}
use Rattle.sap_process_lines.specs.Tables.{ProcessTables, come, with_thread, with_known, with_pile, enters, waiting}
use Rattle.sap_process_lines.specs.Kinds.{kind_named}
use Rattle.sap_process_lines.specs.declared.kind.Kind.{Kind}
use Rattle.sap_process_lines.specs.declared.kind.Kind.TheVariants as kind

-- the number in a table of what is cited, where both are there
abbrev pub number_of : List ℕ → Option ℕ → Option ℕ
number_of table None = None
number_of table (Some k) = slice_get table k

-- a number before numbers, where they are there
abbrev pub before_all : Option ℕ → Option (List ℕ) → Option (List ℕ)
before_all None o = None
before_all (Some n) None = None
before_all (Some n) (Some ns) = Some (n ∷ ns)

-- the numbers in a table of all that are cited, where each is there
abbrev pub numbers_of : List ℕ → List ℕ → Option (List ℕ)
numbers_of table [] = Some []
numbers_of table (k ∷ ks) = before_all (slice_get table k) (numbers_of table ks)

-- what is written first for what is pending, where facts are shown
abbrev pub lines_if : Bool → Option ℕ → List PStep
lines_if true k = pending_lines k
lines_if false k = []

-- what is pending then
abbrev pub left_if : Bool → Option ℕ → Option ℕ
left_if true k = None
left_if false k = k

-- for a name that is made: it is that of the fact that is cited second
abbrev pub told_new : ProcessTables → (n : ℕ) → List ℕ → Option (List PStep × ProcessTables)
told_new t n ks = option_map (λ m. (line.New n m ∷ [], come t (n ∷ []))) (number_of t.facts (slice_get ks 1))

-- for what is sent on what is pending
abbrev pub told_send : ProcessTables → (n : ℕ) → Option (List PStep × ProcessTables)
told_send t n = option_map (λ e. (line.Send n e ∷ [], waiting (with_known (come t (t.known ∷ n ∷ []))) None)) t.pending

-- for what is pending that comes in
abbrev pub told_in : ProcessTables → (n : ℕ) → Option (List PStep × ProcessTables)
told_in t n = option_map (λ e. (line.In n e ∷ [], waiting (come t (n ∷ [])) None)) t.pending

-- for a message of the thread whose fact is cited second
abbrev pub told_meeting : ProcessTables → (n : ℕ) → List ℕ → Option (List PStep × ProcessTables)
told_meeting t n ks = option_map (λ a. (line.Sync a n ∷ [], come t (a ∷ n ∷ []))) (number_of t.facts (slice_get ks 1))

-- for a rule that takes the facts that are cited behind the first
abbrev pub told_embedded : ProcessTables → (n : ℕ) → List ℕ → List Binding → Bool → ℕ → Option (List PStep × ProcessTables)
told_embedded t n ks b shows count =
    option_map (λ js. (lines_if shows t.pending ++ line.Embedded n js b ∷ [], waiting (with_pile t n (count - length t.facts - 1)) (left_if shows t.pending))) (numbers_of t.facts (drop 1 ks))

-- for a rule of this kind that is used on the fact of thread n
abbrev pub told_at : ProcessTables → Kind → (n : ℕ) → List ℕ → List Binding → Bool → ℕ → Option (List PStep × ProcessTables)
told_at t kind.Nil n ks b shows count = Some (line.Nil n ∷ [], t)
told_at t kind.Par n ks b shows count = Some (line.Par n ∷ [], with_thread (come t (n ∷ t.threads ∷ [])))
told_at t kind.RepStart n ks b shows count = Some ([], come t (n ∷ []))
told_at t kind.RepCopy n ks b shows count = Some (line.Rep n ∷ [], with_thread (come t (t.threads ∷ [])))
told_at t kind.New n ks b shows count = told_new t n ks
told_at t kind.Out n ks b shows count = Some (line.Out n ∷ [], with_known (come t (t.known ∷ n ∷ [])))
told_at t kind.OutAdv n ks b shows count = told_send t n
told_at t kind.OutMsg n ks b shows count = Some ([], come t (n ∷ n ∷ []))
told_at t kind.OutAck n ks b shows count = Some ([], come t (n ∷ []))
told_at t kind.In n ks b shows count = told_in t n
told_at t kind.InMsg n ks b shows count = told_meeting t n ks
told_at t kind.Event n ks b shows count = Some (pending_lines t.pending ++ line.Event n ∷ [], waiting (come t (n ∷ [])) None)
told_at t kind.Insert n ks b shows count = Some (line.Insert n ∷ [], come t (n ∷ []))
told_at t kind.Delete n ks b shows count = Some (line.Delete n ∷ [], come t (n ∷ []))
told_at t kind.Lock n ks b shows count = Some (line.Lock n ∷ [], come t (n ∷ []))
told_at t kind.Unlock n ks b shows count = Some (line.Unlock n ∷ [], come t (n ∷ []))
told_at t kind.Then n ks b shows count = Some (line.Then n ∷ [], come t (n ∷ []))
told_at t kind.Else n ks b shows count = Some (line.Else n ∷ [], come t (n ∷ []))
told_at t kind.Found n ks b shows count = Some (line.Found n ∷ [], come t (n ∷ []))
told_at t kind.Missing n ks b shows count = Some (line.Missing n ∷ [], come t (n ∷ []))
told_at t kind.Embedded n ks b shows count = told_embedded t n ks b shows count

-- for a rule of this kind that is used on a fact of this thread, where there are such
abbrev pub told_where : ProcessTables → Option Kind → Option ℕ → List ℕ → List Binding → Bool → ℕ → Option (List PStep × ProcessTables)
told_where t None o ks b shows count = None
told_where t (Some kind) None ks b shows count = None
told_where t (Some kind) (Some n) ks b shows count = told_at t kind n ks b shows count

-- for a rule of this name
abbrev pub told_rule : ProcessTables → List ℕ → List ℕ → List Binding → Bool → ℕ → Option (List PStep × ProcessTables)
told_rule t name ks b shows count =
    if bytes_eq name (codes "Init") then Some ([], come t (0 ∷ [])) else told_where t (kind_named name) (number_of t.facts (slice_get ks 0)) ks b shows count

-- for what the adversary learns of a fact
abbrev pub told_learn : ProcessTables → ℕ → Option (List PStep × ProcessTables)
told_learn t k = option_map (λ e. ([], enters t e)) (slice_get t.facts k)

-- for the name of a fact that it takes
abbrev pub told_own : ProcessTables → ℕ → Option (List PStep × ProcessTables)
told_own t k = option_map (λ n. (line.Name n ∷ [], with_known (enters t t.known))) (slice_get t.facts k)

-- for a symbol that it applies
abbrev pub told_apply : ProcessTables → List ℕ → List ℕ → Option (List PStep × ProcessTables)
told_apply t f ks = option_map (λ js. (line.Apply f js ∷ [], with_known (enters t t.known))) (numbers_of t.entries ks)

-- for an entry that it shows
abbrev pub told_know : ProcessTables → ℕ → Option (List PStep × ProcessTables)
told_know t k = option_map (λ e. (pending_lines t.pending, waiting (come t (0 ∷ [])) (Some e))) (slice_get t.entries k)

-- The lines that are written for a line of rules, and the tables behind: where it shows facts exactly if the flag says so, and so
-- many facts have come behind it. None where a number isn't in the tables, or no rule has such a name.
abbrev pub told : ProcessTables → RStep → (shows : Bool) → (count : ℕ) → Option (List PStep × ProcessTables)
told t (Fresh n) shows count = Some ([], come t (n ∷ []))
told t (Learn k) shows count = told_learn t k
told t (Own k) shows count = told_own t k
told t (Public a) shows count = Some (line.Public a ∷ [], with_known (enters t t.known))
told t (Apply f ks) shows count = told_apply t f ks
told t (Know k) shows count = told_know t k
told t (Rule name ks b) shows count = told_rule t name ks b shows count

-- where they are told, these lines come behind those before, and the tables become these
abbrev pub GivesTold : Option (List PStep × ProcessTables) → (behind : ProcessTables) → (before after : List PStep) → Type 0
GivesTold None behind before after = Unit {0}
GivesTold (Some p) behind before after = (after ≡ before ++ p.0) × (behind ≡ p.1)
