-- Small files by their items, to try by hand why they are refused, and what their processes are.
use Rattle.std.specs.Prelude.{◌≡◌, ℕ, zero, suc, true, false, codes, List, [], ◌∷◌, Option, Some, None}
use Rattle.sap_terms.specs.declared.signature.Builtin.TheVariants.{Hashing, Asymmetric, Signing}
use Rattle.sap_terms.specs.declared.var.Sort.TheVariants.{Msg, Fresh}
use Rattle.sap_terms.specs.declared.var.Var.{Var}
use Rattle.sap_terms.specs.Tree.{Tree, public, variable}
use Rattle.sap_formula.specs.Form.{truth}
use Rattle.sap_formula.specs.declared.lemma.Mode.TheVariants.{AllTraces}
use Rattle.sap_statements.specs.declared.statement.Statement.TheVariants.{Restriction as restriction, Lemma as lemma}
use Rattle.sap_process.specs.Action.{new, out}
use Rattle.sap_process.specs.Proc as whole
use Rattle.sap_process.specs.Proc.{Proc}
use Rattle.sap_macro.specs.Written.{Written, nil, call, parallel, replicated, act, test, lookup}
use Rattle.sap_uses.specs.declared.fault.MacroFault.{MacroFault}
use Rattle.sap_uses.specs.declared.fault.MacroFault.TheVariants.{Parameters, Arguments, TooMany, TooDeep}
use Rattle.sap_read.specs.Causes.{cause_of}
use Rattle.sap_read.specs.FileProcess.{IsExpanded, IsUnexpanded, process_of}
use Rattle.sap_read.specs.Item.{Item, builtins, functions, definition, process, statement, Standing, bodies, signature_of}
use Rattle.sap_read.specs.declared.fault.ReadFault.{ReadFault}
use Rattle.sap_read.specs.declared.fault.ReadFault.TheVariants.{NoProcess, TwoProcesses, UnknownProcess, DuplicateName, FunctionClash}

-- each of these files, by its items, is refused for this cause
abbrev pub AreRefused : List (List Standing × ReadFault) → Type 0
AreRefused [] = Unit {0}
AreRefused (e ∷ es) = (cause_of e.0 ≡ Some e.1) × AreRefused es

-- the process of each of them can't be expanded, for this cause, and nothing before it refuses the file
abbrev pub AreUnexpanded : List (List Standing × MacroFault) → Type 0
AreUnexpanded [] = Unit {0}
AreUnexpanded (e ∷ es) =
    (cause_of e.0 ≡ None) × IsUnexpanded (signature_of e.0) (bodies e.0) e.1 × AreUnexpanded es

-- none of them is refused for any of these causes, whatever its identifiers are
abbrev pub AreUnrefused : List (List Standing) → Type 0
AreUnrefused [] = Unit {0}
AreUnrefused (f ∷ fs) =
    (cause_of f ≡ None)
    × ((names : List (List ℕ)) → (p : Proc) × IsExpanded (signature_of f) names (bodies f) p)
    × AreUnrefused fs

-- a file, with its identifiers
abbrev pub Named : Type 0
Named = List (List ℕ) × List Standing

-- the process of each of these files is this, or there is none
abbrev pub AreProcesses : List (Named × Option Proc) → Type 0
AreProcesses [] = Unit {0}
AreProcesses (e ∷ es) = (process_of e.0.0 (bodies e.0.1) ≡ e.1) × AreProcesses es

-- that of none of them is
abbrev pub AreNoProcesses : List (Named × Proc) → Type 0
AreNoProcesses [] = Unit {0}
AreNoProcesses (e ∷ es) = (¬ (process_of e.0.0 (bodies e.0.1) ≡ Some e.1)) × AreNoProcesses es

-- the items, one on each line from this one on
abbrev pub from_line : ℕ → List Item → List Standing
from_line n [] = []
from_line n (i ∷ is) = record { item = i; line = n } ∷ from_line (suc n) is

-- from the second line on, behind a header on the first
abbrev pub file : List Item → List Standing
file is = from_line 2 is

-- process: p
abbrev pub about : Written → Item
about p = process p

-- let N = p
abbrev pub let_be : List ℕ → Written → Item
let_be n p = definition n [] p

-- let N(xs) = p
abbrev pub let_use : List ℕ → List (List ℕ) → Written → Item
let_use n xs p = definition n xs p

-- restriction N: "T" and lemma N: "T"
abbrev pub restricted : List ℕ → Item
restricted n = statement (restriction (record { name = n; formula = truth }))

abbrev pub stated : List ℕ → Item
stated n = statement (lemma (record { name = n; attributes = []; mode = AllTraces; formula = truth }))

-- functions: f/n
abbrev pub declaring : List ℕ → ℕ → Item
declaring f n = functions (record { name = f; arity = n; private = false } ∷ [])

-- functions: f/n [private]
abbrev pub declaring_private : List ℕ → ℕ → Item
declaring_private f n = functions (record { name = f; arity = n; private = true } ∷ [])

-- the names P, Q and R, and a few others
abbrev pub p_name : List ℕ
p_name = codes "P"

abbrev pub q_name : List ℕ
q_name = codes "Q"

abbrev pub r_name : List ℕ
r_name = codes "R"

-- ! .. ! p, with so many signs
abbrev pub signs : ℕ → Written → Written
signs zero p = p
signs (suc n) p = replicated (signs n p)

-- P | .. | P | p, with so many P
abbrev pub many : ℕ → Written → Written
many zero p = p
many (suc n) p = parallel (call p_name []) (many n p)

-- no process, and not only no item: a definition, a lemma and a declaration are none
abbrev pub without_process : List (List Standing × ReadFault)
without_process =
    ([], NoProcess) ∷ (file (let_be p_name nil ∷ []), NoProcess)
    ∷ (file (declaring (codes "f") 1 ∷ stated (codes "l") ∷ restricted (codes "r") ∷ builtins (Hashing ∷ []) ∷ []), NoProcess) ∷ []

-- two, or three: it is the line of the second
abbrev pub with_two : List (List Standing × ReadFault)
with_two =
    (file (about nil ∷ about nil ∷ []), TwoProcesses 3)
    ∷ (file (about nil ∷ let_be p_name nil ∷ about nil ∷ about nil ∷ []), TwoProcesses 4) ∷ []

-- a name that is defined nowhere, behind its use, or in its own definition; the first from left to right, whatever the item
abbrev pub with_unknown : List (List Standing × ReadFault)
with_unknown =
    (file (about (call p_name []) ∷ []), UnknownProcess p_name)
    ∷ (file (about (call p_name []) ∷ let_be p_name nil ∷ []), UnknownProcess p_name)
    ∷ (file (let_be p_name (call p_name []) ∷ about nil ∷ []), UnknownProcess p_name)
    ∷ (file (let_be p_name nil ∷ about (parallel (call p_name []) (parallel (replicated (call r_name [])) (call q_name []))) ∷ []), UnknownProcess r_name)
    ∷ (file (about nil ∷ let_be p_name (replicated (call q_name [])) ∷ []), UnknownProcess q_name) ∷ []

-- two definitions of one name: the one that stands first of those that stand again; or two restrictions or lemmas, or one that has
-- the name of a generated restriction
abbrev pub with_repeated : List (List Standing × ReadFault)
with_repeated =
    (file (let_be p_name nil ∷ let_be p_name nil ∷ about nil ∷ []), DuplicateName p_name)
    ∷ (file (let_be p_name nil ∷ let_be q_name nil ∷ let_be q_name nil ∷ let_be p_name nil ∷ about nil ∷ []), DuplicateName p_name)
    ∷ (file (about nil ∷ restricted (codes "t") ∷ stated (codes "t") ∷ []), DuplicateName (codes "t"))
    ∷ (file (about nil ∷ stated (codes "t") ∷ stated (codes "u") ∷ stated (codes "t") ∷ []), DuplicateName (codes "t"))
    ∷ (file (about nil ∷ stated (codes "sapic_lock") ∷ []), DuplicateName (codes "sapic_lock")) ∷ []

-- a function with another arity, with and without `private`, or otherwise than a builtin or pairs have it
abbrev pub with_clash : List (List Standing × ReadFault)
with_clash =
    (file (declaring (codes "f") 1 ∷ about nil ∷ declaring (codes "f") 2 ∷ []), FunctionClash (codes "f"))
    ∷ (file (declaring (codes "f") 1 ∷ declaring_private (codes "f") 1 ∷ about nil ∷ []), FunctionClash (codes "f"))
    ∷ (file (builtins (Hashing ∷ []) ∷ declaring (codes "h") 2 ∷ about nil ∷ []), FunctionClash (codes "h"))
    ∷ (file (declaring (codes "pk") 2 ∷ builtins (Signing ∷ []) ∷ about nil ∷ []), FunctionClash (codes "pk"))
    ∷ (file (declaring (codes "fst") 2 ∷ about nil ∷ []), FunctionClash (codes "fst")) ∷ []

-- P of 200 places and levels
abbrev pub large_p : Item
large_p = let_be p_name (signs 199 nil)

-- 19 times P with as many parallels has 3,819 places, and n signs with their `0` have n + 1
abbrev pub beside : ℕ → Item
beside n = about (many 19 (signs n nil))

-- 4,001 places
abbrev pub with_too_many : List (List Standing × MacroFault)
with_too_many = (file (large_p ∷ beside 181 ∷ []), TooMany) ∷ []

-- 301 levels, written at once, and by a name
abbrev pub with_too_deep : List (List Standing × MacroFault)
with_too_deep = (file (about (signs 300 nil) ∷ []), TooDeep) ∷ (file (large_p ∷ about (signs 101 (call p_name [])) ∷ []), TooDeep) ∷ []

-- the names x and y, and 'a'
abbrev pub x_name : List ℕ
x_name = codes "x"

abbrev pub y_name : List ℕ
y_name = codes "y"

abbrev pub a : Tree
a = public (codes "a")

-- a parameter that stands twice: the first that stands again, of the first such definition, wherever the process stands
abbrev pub with_parameter_twice : List (List Standing × MacroFault)
with_parameter_twice =
    (file (let_use p_name (x_name ∷ x_name ∷ []) nil ∷ about nil ∷ []), Parameters x_name)
    ∷ (file (let_use p_name (x_name ∷ y_name ∷ y_name ∷ x_name ∷ []) nil ∷ about nil ∷ []), Parameters x_name)
    ∷ (file (about nil ∷ let_use p_name (x_name ∷ []) nil ∷ let_use q_name (y_name ∷ y_name ∷ []) nil ∷ []), Parameters y_name) ∷ []

-- too few arguments, too many, none where there is a parameter; in a body, wherever the process stands, before one in the process
abbrev pub with_other_count : List (List Standing × MacroFault)
with_other_count =
    (file (let_use p_name (x_name ∷ y_name ∷ []) nil ∷ about (call p_name (a ∷ [])) ∷ []), Arguments p_name)
    ∷ (file (let_be p_name nil ∷ about (call p_name (a ∷ [])) ∷ []), Arguments p_name)
    ∷ (file (let_use p_name (x_name ∷ []) nil ∷ about (call p_name []) ∷ []), Arguments p_name)
    ∷ (file (let_use p_name (x_name ∷ []) nil ∷ let_use r_name (x_name ∷ []) nil ∷ about (call r_name []) ∷ let_be q_name (call p_name []) ∷ []), Arguments p_name)
    ∷ (file (let_be q_name nil ∷ let_use p_name (x_name ∷ []) nil ∷ let_be r_name (call p_name []) ∷ about (call q_name (a ∷ [])) ∷ []), Arguments p_name) ∷ []

-- near misses of each cause, in their order
abbrev pub near_files : List (List Standing)
near_files =
    -- one process, and nothing else; or definitions around it
    file (about nil ∷ []) ∷ file (let_be p_name nil ∷ about nil ∷ let_be q_name nil ∷ [])
    -- names that were defined before, and in a definition behind the process
    ∷ file (let_be p_name nil ∷ about (parallel (call p_name []) (call p_name [])) ∷ [])
    ∷ file (let_be p_name nil ∷ let_be q_name (call p_name []) ∷ about (call q_name []) ∷ []) ∷ file (about nil ∷ let_be p_name nil ∷ let_be q_name (call p_name []) ∷ [])
    -- a definition, a restriction and a lemma of names that are nearly one; a process and a lemma of one name
    ∷ file (let_be p_name nil ∷ let_be (codes "PP") nil ∷ about nil ∷ restricted (codes "t") ∷ stated (codes "tt") ∷ stated (codes "sapic") ∷ [])
    ∷ file (let_be (codes "t") nil ∷ about (call (codes "t") []) ∷ stated (codes "t") ∷ []) ∷ file (let_be (codes "sapic_lock") nil ∷ about nil ∷ [])
    -- a function that is declared twice alike, as a builtin or as pairs have it, or by two builtins
    ∷ file (declaring (codes "f") 1 ∷ declaring (codes "f") 1 ∷ about nil ∷ []) ∷ file (builtins (Hashing ∷ []) ∷ declaring (codes "h") 1 ∷ about nil ∷ [])
    ∷ file (declaring (codes "fst") 1 ∷ builtins (Signing ∷ Asymmetric ∷ []) ∷ about nil ∷ [])
    -- 4,000 places; 300 levels, written at once and by a name
    ∷ file (large_p ∷ beside 180 ∷ []) ∷ file (about (signs 299 nil) ∷ []) ∷ file (large_p ∷ about (signs 100 (call p_name [])) ∷ []) ∷ []

-- each cause in a file that has a later cause too
abbrev pub counting_first : List (List Standing × ReadFault)
counting_first =
    (file (let_be p_name (call q_name []) ∷ []), NoProcess) ∷ (file (about (call p_name []) ∷ about nil ∷ []), TwoProcesses 3)
    ∷ (file (let_be p_name nil ∷ let_be p_name nil ∷ about (call q_name []) ∷ []), UnknownProcess q_name)
    ∷ (file (restricted (codes "t") ∷ stated (codes "t") ∷ let_be p_name nil ∷ let_be p_name nil ∷ about nil ∷ []), DuplicateName p_name)
    ∷ (file (declaring (codes "f") 1 ∷ declaring (codes "f") 2 ∷ restricted (codes "t") ∷ stated (codes "t") ∷ about nil ∷ []), DuplicateName (codes "t"))
    ∷ (file (let_use p_name (x_name ∷ x_name ∷ []) nil ∷ about nil ∷ declaring (codes "f") 1 ∷ declaring (codes "f") 2 ∷ []), FunctionClash (codes "f"))
    ∷ (file (large_p ∷ beside 181 ∷ declaring (codes "f") 1 ∷ declaring (codes "f") 2 ∷ []), FunctionClash (codes "f")) ∷ []

-- so of the causes for which a process can't be expanded
abbrev pub unexpanded_first : List (List Standing × MacroFault)
unexpanded_first =
    (file (let_use p_name (x_name ∷ x_name ∷ []) nil ∷ about (call p_name []) ∷ []), Parameters x_name)
    ∷ (file (large_p ∷ let_be q_name (call p_name (a ∷ [])) ∷ beside 181 ∷ []), Arguments p_name)
    ∷ (file (large_p ∷ beside 300 ∷ []), TooMany) ∷ []

-- 'b', x and n, and the processes that give 'a' or 'b' and end
abbrev pub b : Tree
b = public (codes "b")

abbrev pub x : Var
x = record { name = codes "x"; sort = Msg }

abbrev pub fresh_named : List ℕ → Var
fresh_named n = record { name = n; sort = Fresh }

abbrev pub given_a : Written
given_a = act (out a) nil

abbrev pub given_b : Written
given_b = act (out b) nil

abbrev pub gives_a : Proc
gives_a = whole.act (out a) whole.nil

abbrev pub gives_b : Proc
gives_b = whole.act (out b) whole.nil

-- P in each place where a name may stand
abbrev pub everywhere : Written
everywhere = parallel (replicated (call p_name [])) (act (out b) (test a b (call p_name []) (lookup a x (call p_name []) (call p_name []))))

-- new ~n; out(~n), for a name n
abbrev pub gives_new : List ℕ → Proc
gives_new n = whole.act (new (fresh_named n)) (whole.act (out (variable (fresh_named n))) whole.nil)

-- let P(x) = out(x), and let Q(x) = new ~n; out(~n)
abbrev pub giving_x : Item
giving_x = let_use p_name (codes "x" ∷ []) (act (out (variable x)) nil)

abbrev pub giving_n : Item
giving_n =
    let_use q_name (codes "x" ∷ []) (act (new (fresh_named (codes "n"))) (act (out (variable (fresh_named (codes "n")))) nil))

-- no identifiers but n; and n_1 too
abbrev pub with_n : List Item → Named
with_n is = (codes "n" ∷ [], file is)

abbrev pub with_n_1 : List Item → Named
with_n_1 is = (codes "n" ∷ codes "n_1" ∷ [], file is)

-- the processes of files: that of the item, and none without one; a name stands for what its item says of it, each time in full, as the
-- names in it stood there; the first process of two; a use by its definition's body, the argument for the parameter, and what the body
-- binds by new names, which are no identifiers of the file and differ from one another
abbrev pub file_processes : List (Named × Option Proc)
file_processes =
    (with_n (about nil ∷ []), Some whole.nil) ∷ ((codes "n" ∷ [], []), None) ∷ (with_n (let_be p_name given_a ∷ []), None)
    ∷ (with_n (let_be p_name given_a ∷ about (parallel (call p_name []) (call p_name [])) ∷ []), Some (whole.parallel gives_a gives_a))
    ∷ (with_n (let_be p_name given_a ∷ let_be q_name (replicated (call p_name [])) ∷ about (call q_name []) ∷ []), Some (whole.replicated gives_a))
    ∷ (with_n (let_be p_name given_a ∷ let_be q_name (call p_name []) ∷ let_be p_name given_b ∷ about (parallel (call p_name []) (call q_name [])) ∷ []), Some (whole.parallel gives_b gives_a))
    ∷ (with_n (about given_a ∷ about given_b ∷ []), Some gives_a)
    ∷ (
      with_n (let_be p_name given_a ∷ about everywhere ∷ []),
      Some (whole.parallel (whole.replicated gives_a) (whole.act (out b) (whole.test a b gives_a (whole.lookup a x gives_a gives_a)))),
    )
    ∷ (with_n (giving_x ∷ about (parallel (call p_name (a ∷ [])) (call p_name (b ∷ []))) ∷ []), Some (whole.parallel gives_a gives_b))
    ∷ (with_n (giving_n ∷ about (parallel (call q_name (a ∷ [])) (call q_name (a ∷ []))) ∷ []), Some (whole.parallel (gives_new (codes "n_1")) (gives_new (codes "n_2"))))
    ∷ (with_n_1 (giving_n ∷ about (call q_name (a ∷ [])) ∷ []), Some (gives_new (codes "n_2"))) ∷ []

-- what isn't their process: `0` for a name that was defined; the definition behind; the second process; a definition's process; the
-- parameter for its argument; a name that the file has
abbrev pub other_processes : List (Named × Proc)
other_processes =
    (with_n (let_be p_name given_a ∷ about (parallel (call p_name []) (call p_name [])) ∷ []), whole.parallel gives_a whole.nil)
    ∷ (with_n (let_be p_name given_a ∷ let_be q_name (call p_name []) ∷ let_be p_name given_b ∷ about (call q_name []) ∷ []), gives_b)
    ∷ (with_n (about given_a ∷ about given_b ∷ []), gives_b) ∷ (with_n (let_be p_name given_a ∷ []), gives_a)
    ∷ (with_n (giving_x ∷ about (call p_name (a ∷ [])) ∷ []), whole.act (out (variable x)) whole.nil)
    ∷ (with_n (giving_n ∷ about (call q_name (a ∷ [])) ∷ []), gives_new (codes "n"))
    ∷ (with_n_1 (giving_n ∷ about (call q_name (a ∷ [])) ∷ []), gives_new (codes "n_1")) ∷ []

-- ! Q, and ! 0
abbrev pub plain_main : Written
plain_main = replicated (call q_name [])

abbrev pub plain_tree : Proc
plain_tree = whole.replicated whole.nil

-- let P = 0, let Q = P, process: ! Q
abbrev pub plain_file : List Standing
plain_file = file (let_be p_name nil ∷ let_be q_name (call p_name []) ∷ about plain_main ∷ [])

-- a parameter; an argument in the process, and in a definition
abbrev pub files_not_plain : List (List Standing)
files_not_plain =
    file (let_use p_name (codes "x" ∷ []) nil ∷ about nil ∷ [])
    ∷ file (let_be p_name nil ∷ about (parallel nil (call p_name (a ∷ []))) ∷ [])
    ∷ file (let_be p_name nil ∷ let_be q_name (call p_name (a ∷ [])) ∷ about nil ∷ []) ∷ []

-- let P(x) = 0, process: P(x)
abbrev pub open_main : Written
open_main = call p_name (variable x ∷ [])

abbrev pub open_file : List Standing
open_file = file (let_use p_name (codes "x" ∷ []) nil ∷ about open_main ∷ [])
