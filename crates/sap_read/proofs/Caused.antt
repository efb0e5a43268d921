-- Which cause comes first.
use Rattle.std.proofs.Common.{◌≡◌, ℕ, List, [], ◌∷◌, Option, Some, None, refl, map}
use Rattle.sap_restrict.specs.Restrictions.{is_generated}
use Rattle.sap_statements.specs.declared.statement.Statement.{Statement}
use Rattle.sap_statements.specs.Statements.{name_of}
use Rattle.sap_read.specs.declared.fault.ReadFault.TheVariants.{NoProcess, TwoProcesses, UnknownProcess, DuplicateName, FunctionClash}
use Rattle.sap_read.specs.Item.{Body}
use Rattle.sap_read.specs.Causes.{unlabelled, labels, unknown_from, first_repeated, first_taken, cause}

pub no_process : (bs : List Body) (ss : List Statement) (clash : Option (List ℕ)) → unlabelled bs ≡ [] → cause bs ss clash ≡ Some NoProcess
no_process bs ss clash e = rw e refl

pub two_processes : (bs cs : List Body) (b c : Body) (ss : List Statement) (clash : Option (List ℕ)) → unlabelled bs ≡ b ∷ c ∷ cs → cause bs ss clash ≡ Some (TwoProcesses c.line)
two_processes bs cs b c ss clash e = rw e refl

-- where one process is the file's, a name that is used before it is defined decides
pub unknown_process : (bs : List Body) (ss : List Statement) (b : Body) (clash : Option (List ℕ)) (x : List ℕ) → unlabelled bs ≡ b ∷ [] → unknown_from [] bs ≡ Some x → cause bs ss clash ≡ Some (UnknownProcess x)
unknown_process bs ss b clash x e u = rw (e, u) refl

-- where one process is the file's and each name is known, a name that is defined twice decides
pub name_repeated : (bs : List Body) (ss : List Statement) (b : Body) (clash : Option (List ℕ)) (x : List ℕ) → unlabelled bs ≡ b ∷ [] → unknown_from [] bs ≡ None → first_repeated (labels bs) ≡ Some x
    → cause bs ss clash ≡ Some (DuplicateName x)
name_repeated bs ss b clash x e u d = rw (e, u, d) refl

-- where none is, the name of a restriction or lemma that is taken
pub name_reused : (bs : List Body) (ss : List Statement) (b : Body) (clash : Option (List ℕ)) (x : List ℕ) → unlabelled bs ≡ b ∷ [] → unknown_from [] bs ≡ None → first_repeated (labels bs) ≡ None
    → first_taken is_generated (map name_of ss) ≡ Some x → cause bs ss clash ≡ Some (DuplicateName x)
name_reused bs ss b clash x e u d f = rw (e, u, d, f) refl

-- and where none of them is, a function that clashes
pub function_clashes : (bs : List Body) (ss : List Statement) (b : Body) (clash : Option (List ℕ)) (x : List ℕ) → unlabelled bs ≡ b ∷ [] → unknown_from [] bs ≡ None → first_repeated (labels bs) ≡ None
    → first_taken is_generated (map name_of ss) ≡ None → clash ≡ Some x → cause bs ss clash ≡ Some (FunctionClash x)
function_clashes bs ss b clash x e u d f c = rw (e, u, d, f, c) refl

-- and where nothing is wrong, there is no cause
pub no_cause : (bs : List Body) (ss : List Statement) (b : Body) (clash : Option (List ℕ)) → unlabelled bs ≡ b ∷ [] → unknown_from [] bs ≡ None → first_repeated (labels bs) ≡ None
    → first_taken is_generated (map name_of ss) ≡ None → clash ≡ None → cause bs ss clash ≡ None
no_cause bs ss b clash e u d f c = rw (e, u, d, f, c) refl

pub ruleset one_process = (no_process, two_processes)
