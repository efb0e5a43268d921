-- What a conversion of lines of rules keeps: what the facts and the entries of the rules are on the side of the process.
use Rattle.std.specs.Prelude.{◌+◌, ℕ, List, [], ◌∷◌, ◌++◌, Option, None}
use Rattle.sap_rule_lines.specs.RuleLines.{numbers_from}

-- the tables
pub record ProcessTables : Type 0 where
  -- for each fact of the rules a number: of the thread that it stands for, where it says where control is or is a message under
  -- way; of the entry that it is, where it was sent; of the fact of the process that it is; of the name, where it is Fr of one
  pub facts : List ℕ
  -- for each entry of the rules the number of the entry of the process that it is
  pub entries : List ℕ
  -- the number of the entry that is pending
  pub pending : Option ℕ
  -- how many threads, entries and facts the process has had, which are the numbers that the next ones get
  pub threads : ℕ
  pub known : ℕ
  pub piled : ℕ

-- the tables before the first line, where one thread is unborn
abbrev pub first_process_tables : ProcessTables
first_process_tables = record { facts = []; entries = []; pending = None; threads = 1; known = 0; piled = 0 }

-- facts come, which are these
abbrev pub come : ProcessTables → List ℕ → ProcessTables
come tables ks = record tables { facts = tables.facts ++ ks }

-- one more thread comes
abbrev pub with_thread : ProcessTables → ProcessTables
with_thread tables = record tables { threads = tables.threads + 1 }

-- one more entry of the process comes
abbrev pub with_known : ProcessTables → ProcessTables
with_known tables = record tables { known = tables.known + 1 }

-- one more entry of the rules comes, which is this one
abbrev pub enters : ProcessTables → ℕ → ProcessTables
enters tables e = record tables { entries = tables.entries ++ e ∷ [] }

-- this is pending from here on
abbrev pub waiting : ProcessTables → Option ℕ → ProcessTables
waiting tables k = record tables { pending = k }

-- so many facts of the process come behind the fact of thread t
abbrev pub with_pile : ProcessTables → (t many : ℕ) → ProcessTables
with_pile tables t many = record tables { facts = tables.facts ++ t ∷ numbers_from tables.piled many; piled = tables.piled + many }
