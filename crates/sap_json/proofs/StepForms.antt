-- Each step has its first word and what stands behind it, and each of these is one step's.
use Rattle.std.proofs.Common.{◌≡◌, ℕ, Bool, true, false, List, ◌∷◌, Option, Some, None, refl, subst}
use Rattle.std.specs.Prelude.{codes, ⊤, if◌then◌else◌}
use Rattle.std.specs.Str.{bytes_eq}
use Rattle.std.proofs.lemmas.Slice.Eq.{bytes_eq-Decides}
use Rattle.sap_text.specs.declared.token.Kind.TheVariants as kind
use Rattle.sap_text.specs.Tokens.{IsToken, ident}
use Rattle.sap_runs.specs.declared.process_step.PStep.{PStep}
use Rattle.sap_runs.specs.declared.process_step.PStep.TheVariants as step
use Rattle.sap_runs.specs.declared.rule_step.RStep.{RStep}
use Rattle.sap_runs.specs.declared.rule_step.RStep.TheVariants as rstep
use Rattle.sap_run_lines.specs.LineWords.{identifier}
use Rattle.sap_run_lines.specs.StepLines.{NamesSymbol, NamesRule}
use Rattle.sap_json.specs.declared.operands.Operands.{Operands}
use Rattle.sap_json.specs.declared.operands.Operands.TheVariants as op
use Rattle.sap_json.specs.Arrays.{one, process_cells, rule_cells}
use Rattle.sap_json.specs.code.Operands.{operand_cells, AreNamed, process_word, process_operands, process_of, rule_word, rule_operands, rule_of}

same_bytes : (x y : List ℕ) → bytes_eq x y ≡ true → x ≡ y
same_bytes x y e = (bytes_eq-Decides x y).0 e

-- a value, if there is one, has this property
abbrev OnSome : {A : Type 0} → (A → Type 0) → Option A → Type 0
OnSome P None = ⊤
OnSome P (Some x) = P x

if_on : {B : Type 0} (Q : B → Type 0) (c : Bool) (x y : Option B) → (c ≡ true → OnSome Q x) → (c ≡ false → OnSome Q y) → OnSome Q (if c then x else y)
if_on Q true x y t f = t refl
if_on Q false x y t f = f refl

some_on : {A : Type 0} (P : A → Type 0) (o : Option A) (v : A) → o ≡ Some v → OnSome P o → P v
some_on P o v e h = subst (OnSome P) e h

pub process_apart : (s : PStep) → process_cells s ≡ one (identifier (process_word s)) ∷ operand_cells (process_operands s)
process_apart (step.Nil t) = refl
process_apart (step.Par t) = refl
process_apart (step.Rep t) = refl
process_apart (step.New t n) = refl
process_apart (step.Out t) = refl
process_apart (step.Send a b) = refl
process_apart (step.In a b) = refl
process_apart (step.Sync a b) = refl
process_apart (step.Then t) = refl
process_apart (step.Else t) = refl
process_apart (step.Event t) = refl
process_apart (step.Insert t) = refl
process_apart (step.Delete t) = refl
process_apart (step.Found t) = refl
process_apart (step.Missing t) = refl
process_apart (step.Lock t) = refl
process_apart (step.Unlock t) = refl
process_apart (step.Embedded t facts bindings) = refl
process_apart (step.Name n) = refl
process_apart (step.Public s) = refl
process_apart (step.Apply f ks) = refl
process_apart (step.Know t) = refl

pub process_named : (s : PStep) → NamesSymbol s → AreNamed (process_operands s)
process_named (step.Nil t) h = h
process_named (step.Par t) h = h
process_named (step.Rep t) h = h
process_named (step.New t n) h = h
process_named (step.Out t) h = h
process_named (step.Send a b) h = h
process_named (step.In a b) h = h
process_named (step.Sync a b) h = h
process_named (step.Then t) h = h
process_named (step.Else t) h = h
process_named (step.Event t) h = h
process_named (step.Insert t) h = h
process_named (step.Delete t) h = h
process_named (step.Found t) h = h
process_named (step.Missing t) h = h
process_named (step.Lock t) h = h
process_named (step.Unlock t) h = h
process_named (step.Embedded t facts bindings) h = h
process_named (step.Name n) h = h
process_named (step.Public s) h = h
process_named (step.Apply f ks) h = h
process_named (step.Know t) h = h

pub process_names : (s : PStep) → AreNamed (process_operands s) → NamesSymbol s
process_names (step.Nil t) h = h
process_names (step.Par t) h = h
process_names (step.Rep t) h = h
process_names (step.New t n) h = h
process_names (step.Out t) h = h
process_names (step.Send a b) h = h
process_names (step.In a b) h = h
process_names (step.Sync a b) h = h
process_names (step.Then t) h = h
process_names (step.Else t) h = h
process_names (step.Event t) h = h
process_names (step.Insert t) h = h
process_names (step.Delete t) h = h
process_names (step.Found t) h = h
process_names (step.Missing t) h = h
process_names (step.Lock t) h = h
process_names (step.Unlock t) h = h
process_names (step.Embedded t facts bindings) h = h
process_names (step.Name n) h = h
process_names (step.Public s) h = h
process_names (step.Apply f ks) h = h
process_names (step.Know t) h = h

pub process_token : (s : PStep) → IsToken kind.Ident (process_word s)
process_token (step.Nil t) = ident refl refl
process_token (step.Par t) = ident refl refl
process_token (step.Rep t) = ident refl refl
process_token (step.New t n) = ident refl refl
process_token (step.Out t) = ident refl refl
process_token (step.Send a b) = ident refl refl
process_token (step.In a b) = ident refl refl
process_token (step.Sync a b) = ident refl refl
process_token (step.Then t) = ident refl refl
process_token (step.Else t) = ident refl refl
process_token (step.Event t) = ident refl refl
process_token (step.Insert t) = ident refl refl
process_token (step.Delete t) = ident refl refl
process_token (step.Found t) = ident refl refl
process_token (step.Missing t) = ident refl refl
process_token (step.Lock t) = ident refl refl
process_token (step.Unlock t) = ident refl refl
process_token (step.Embedded t facts bindings) = ident refl refl
process_token (step.Name n) = ident refl refl
process_token (step.Public s) = ident refl refl
process_token (step.Apply f ks) = ident refl refl
process_token (step.Know t) = ident refl refl

pub process_back : (s : PStep) → process_of (process_word s) (process_operands s) ≡ Some s
process_back (step.Nil t) = refl
process_back (step.Par t) = refl
process_back (step.Rep t) = refl
process_back (step.New t n) = refl
process_back (step.Out t) = refl
process_back (step.Send a b) = refl
process_back (step.In a b) = refl
process_back (step.Sync a b) = refl
process_back (step.Then t) = refl
process_back (step.Else t) = refl
process_back (step.Event t) = refl
process_back (step.Insert t) = refl
process_back (step.Delete t) = refl
process_back (step.Found t) = refl
process_back (step.Missing t) = refl
process_back (step.Lock t) = refl
process_back (step.Unlock t) = refl
process_back (step.Embedded t facts bindings) = refl
process_back (step.Name n) = refl
process_back (step.Public s) = refl
process_back (step.Apply f ks) = refl
process_back (step.Know t) = refl

abbrev PIs : List ℕ → Operands → PStep → Type 0
PIs x o s = (x ≡ process_word s) × (o ≡ process_operands s)

process_on : (x : List ℕ) (o : Operands) → OnSome (PIs x o) (process_of x o)
process_on x (op.Number t) =
    if_on (PIs x (op.Number t)) (bytes_eq x (codes "nil")) _ _ (λ e. (same_bytes x (codes "nil") e, refl)) (λ e.
    if_on (PIs x (op.Number t)) (bytes_eq x (codes "par")) _ _ (λ e. (same_bytes x (codes "par") e, refl)) (λ e.
    if_on (PIs x (op.Number t)) (bytes_eq x (codes "rep")) _ _ (λ e. (same_bytes x (codes "rep") e, refl)) (λ e.
    if_on (PIs x (op.Number t)) (bytes_eq x (codes "out")) _ _ (λ e. (same_bytes x (codes "out") e, refl)) (λ e.
    if_on (PIs x (op.Number t)) (bytes_eq x (codes "then")) _ _ (λ e. (same_bytes x (codes "then") e, refl)) (λ e.
    if_on (PIs x (op.Number t)) (bytes_eq x (codes "else")) _ _ (λ e. (same_bytes x (codes "else") e, refl)) (λ e.
    if_on (PIs x (op.Number t)) (bytes_eq x (codes "event")) _ _ (λ e. (same_bytes x (codes "event") e, refl)) (λ e.
    if_on (PIs x (op.Number t)) (bytes_eq x (codes "insert")) _ _ (λ e. (same_bytes x (codes "insert") e, refl)) (λ e.
    if_on (PIs x (op.Number t)) (bytes_eq x (codes "delete")) _ _ (λ e. (same_bytes x (codes "delete") e, refl)) (λ e.
    if_on (PIs x (op.Number t)) (bytes_eq x (codes "found")) _ _ (λ e. (same_bytes x (codes "found") e, refl)) (λ e.
    if_on (PIs x (op.Number t)) (bytes_eq x (codes "missing")) _ _ (λ e. (same_bytes x (codes "missing") e, refl)) (λ e.
    if_on (PIs x (op.Number t)) (bytes_eq x (codes "lock")) _ _ (λ e. (same_bytes x (codes "lock") e, refl)) (λ e.
    if_on (PIs x (op.Number t)) (bytes_eq x (codes "unlock")) _ _ (λ e. (same_bytes x (codes "unlock") e, refl)) (λ e.
    if_on (PIs x (op.Number t)) (bytes_eq x (codes "know")) _ _ (λ e. (same_bytes x (codes "know") e, refl)) (λ e. tt))))))))))))))
process_on x (op.Numbers a b) =
    if_on (PIs x (op.Numbers a b)) (bytes_eq x (codes "send")) _ _ (λ e. (same_bytes x (codes "send") e, refl)) (λ e.
    if_on (PIs x (op.Numbers a b)) (bytes_eq x (codes "in")) _ _ (λ e. (same_bytes x (codes "in") e, refl)) (λ e.
    if_on (PIs x (op.Numbers a b)) (bytes_eq x (codes "sync")) _ _ (λ e. (same_bytes x (codes "sync") e, refl)) (λ e. tt)))
process_on x (op.NumberAndFresh t n) =
    if_on (PIs x (op.NumberAndFresh t n)) (bytes_eq x (codes "new")) _ _ (λ e. (same_bytes x (codes "new") e, refl)) (λ e. tt)
process_on x (op.Fresh n) =
    if_on (PIs x (op.Fresh n)) (bytes_eq x (codes "name")) _ _ (λ e. (same_bytes x (codes "name") e, refl)) (λ e. tt)
process_on x (op.Public s) =
    if_on (PIs x (op.Public s)) (bytes_eq x (codes "pub")) _ _ (λ e. (same_bytes x (codes "pub") e, refl)) (λ e. tt)
process_on x (op.Applied f ks) =
    if_on (PIs x (op.Applied f ks)) (bytes_eq x (codes "app")) _ _ (λ e. (same_bytes x (codes "app") e, refl)) (λ e. tt)
process_on x (op.Embedded t facts bindings) =
    if_on (PIs x (op.Embedded t facts bindings)) (bytes_eq x (codes "rule")) _ _ (λ e. (same_bytes x (codes "rule") e, refl)) (λ e. tt)
process_on x (op.Named name facts bindings) = tt

pub process_only : (x : List ℕ) (o : Operands) (s : PStep) → process_of x o ≡ Some s → (x ≡ process_word s) × (o ≡ process_operands s)
process_only x o s e = some_on (PIs x o) (process_of x o) s e (process_on x o)

pub rule_apart : (s : RStep) → rule_cells s ≡ one (identifier (rule_word s)) ∷ operand_cells (rule_operands s)
rule_apart (rstep.Fresh n) = refl
rule_apart (rstep.Learn t) = refl
rule_apart (rstep.Own t) = refl
rule_apart (rstep.Public s) = refl
rule_apart (rstep.Apply f ks) = refl
rule_apart (rstep.Know t) = refl
rule_apart (rstep.Rule name facts bindings) = refl

pub rule_named : (s : RStep) → NamesRule s → AreNamed (rule_operands s)
rule_named (rstep.Fresh n) h = h
rule_named (rstep.Learn t) h = h
rule_named (rstep.Own t) h = h
rule_named (rstep.Public s) h = h
rule_named (rstep.Apply f ks) h = h
rule_named (rstep.Know t) h = h
rule_named (rstep.Rule name facts bindings) h = h

pub rule_names : (s : RStep) → AreNamed (rule_operands s) → NamesRule s
rule_names (rstep.Fresh n) h = h
rule_names (rstep.Learn t) h = h
rule_names (rstep.Own t) h = h
rule_names (rstep.Public s) h = h
rule_names (rstep.Apply f ks) h = h
rule_names (rstep.Know t) h = h
rule_names (rstep.Rule name facts bindings) h = h

pub rule_token : (s : RStep) → IsToken kind.Ident (rule_word s)
rule_token (rstep.Fresh n) = ident refl refl
rule_token (rstep.Learn t) = ident refl refl
rule_token (rstep.Own t) = ident refl refl
rule_token (rstep.Public s) = ident refl refl
rule_token (rstep.Apply f ks) = ident refl refl
rule_token (rstep.Know t) = ident refl refl
rule_token (rstep.Rule name facts bindings) = ident refl refl

pub rule_back : (s : RStep) → rule_of (rule_word s) (rule_operands s) ≡ Some s
rule_back (rstep.Fresh n) = refl
rule_back (rstep.Learn t) = refl
rule_back (rstep.Own t) = refl
rule_back (rstep.Public s) = refl
rule_back (rstep.Apply f ks) = refl
rule_back (rstep.Know t) = refl
rule_back (rstep.Rule name facts bindings) = refl

abbrev RIs : List ℕ → Operands → RStep → Type 0
RIs x o s = (x ≡ rule_word s) × (o ≡ rule_operands s)

rule_on : (x : List ℕ) (o : Operands) → OnSome (RIs x o) (rule_of x o)
rule_on x (op.Number t) =
    if_on (RIs x (op.Number t)) (bytes_eq x (codes "learn")) _ _ (λ e. (same_bytes x (codes "learn") e, refl)) (λ e.
    if_on (RIs x (op.Number t)) (bytes_eq x (codes "own")) _ _ (λ e. (same_bytes x (codes "own") e, refl)) (λ e.
    if_on (RIs x (op.Number t)) (bytes_eq x (codes "know")) _ _ (λ e. (same_bytes x (codes "know") e, refl)) (λ e. tt)))
rule_on x (op.Numbers a b) = tt
rule_on x (op.NumberAndFresh t n) = tt
rule_on x (op.Fresh n) =
    if_on (RIs x (op.Fresh n)) (bytes_eq x (codes "fresh")) _ _ (λ e. (same_bytes x (codes "fresh") e, refl)) (λ e. tt)
rule_on x (op.Public s) =
    if_on (RIs x (op.Public s)) (bytes_eq x (codes "pub")) _ _ (λ e. (same_bytes x (codes "pub") e, refl)) (λ e. tt)
rule_on x (op.Applied f ks) =
    if_on (RIs x (op.Applied f ks)) (bytes_eq x (codes "app")) _ _ (λ e. (same_bytes x (codes "app") e, refl)) (λ e. tt)
rule_on x (op.Embedded t facts bindings) = tt
rule_on x (op.Named name facts bindings) =
    if_on (RIs x (op.Named name facts bindings)) (bytes_eq x (codes "rule")) _ _ (λ e. (same_bytes x (codes "rule") e, refl)) (λ e. tt)

pub rule_only : (x : List ℕ) (o : Operands) (s : RStep) → rule_of x o ≡ Some s → (x ≡ rule_word s) × (o ≡ rule_operands s)
rule_only x o s e = some_on (RIs x o) (rule_of x o) s e (rule_on x o)
