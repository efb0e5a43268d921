-- Small files and what notes say of them.
use Rattle.std.specs.Prelude.{ℕ, false, codes, decimal, List, [], ◌∷◌, ◌++◌}
use Rattle.sap_terms.specs.Signature.{Sig, no_builtins, public_symbol}
use Rattle.sap_terms.specs.Tree.{Tree, apply, fresh, more, none, public, variable}
use Rattle.sap_terms.specs.declared.fact.Fact.{Fact}
use Rattle.sap_terms.specs.declared.var.Sort.TheVariants.{Msg}
use Rattle.sap_terms.specs.declared.var.Var.{Var}
use Rattle.sap_text.specs.declared.token.Token.{Token}
use Rattle.sap_process.specs.Action as action
use Rattle.sap_process.specs.Proc.{act, nil}
use Rattle.sap_macro.specs.Written as written
use Rattle.sap_macro.specs.Written.{Written, Definition}
use Rattle.sap_formula.specs.Form as form
use Rattle.sap_stretches.specs.StretchExamples.{stretch, word}
use Rattle.sap_where.specs.PlaceExamples.{digit, sign}
use Rattle.sap_notes.specs.Contents.{Content}
use Rattle.sap_notes.specs.NotesTold.{sentence}
use Rattle.sap_notes.specs.declared.note.Kind.{Kind}
use Rattle.sap_notes.specs.declared.note.Kind.TheVariants.{OtherSymbol, UnusedDefinition}
use Rattle.sap_notes.specs.declared.note.Note.{Note}

-- declarations of h, of f, which is private, and of h again, and a definition of A with parameters
abbrev pub declared : List ℕ
declared = codes "functions : h / 1 , f / 1 [ private ] , h / 1 let A ( x , f ) = f"

abbrev pub declared_tokens : List Token
declared_tokens =
    word 0 9 ∷ sign 10 11 ∷ word 12 13 ∷ sign 14 15 ∷ digit 16 17 ∷ sign 18 19 ∷ word 20 21
    ∷ sign 22 23 ∷ digit 24 25 ∷ sign 26 27 ∷ word 28 35 ∷ sign 36 37 ∷ sign 38 39 ∷ word 40 41
    ∷ sign 42 43 ∷ digit 44 45 ∷ word 46 49 ∷ word 50 51 ∷ sign 52 53 ∷ word 54 55 ∷ sign 56 57 ∷ word 58 59
    ∷ sign 60 61 ∷ sign 62 63 ∷ word 64 65 ∷ []

-- a signature with one symbol, and builtins
abbrev pub with_symbol : List ℕ → ℕ → Sig
with_symbol x n = record { symbols = public_symbol x n ∷ []; builtins = no_builtins }

-- the term that this symbol makes of another
abbrev pub on : List ℕ → Tree → Tree
on f t = apply f (more t none)

abbrev pub constant : List ℕ → Tree
constant f = apply f none

abbrev pub x_is : Var
x_is = record { name = codes "x"; sort = Msg }

abbrev pub fact_of : Tree → Fact
fact_of t = record { name = codes "F"; persistent = false; args = t ∷ [] }

-- what does everything once, with another symbol in each term
abbrev pub all_actions : Written
all_actions =
    written.act (action.new x_is) (written.act (action.out (on (codes "a") (constant (codes "b"))))
    (written.act (action.send (constant (codes "c")) (constant (codes "d")))
    (written.act (action.input (constant (codes "e")))
    (written.act (action.receive (constant (codes "f")) (constant (codes "g")))
    (written.act (action.event (fact_of (constant (codes "h"))))
    (written.act (action.insert (constant (codes "i")) (constant (codes "j")))
    (written.act (action.delete (constant (codes "k")))
    (written.act (action.lock (constant (codes "l")) 0)
    (written.act (action.unlock (constant (codes "m")) 0)
    (written.act (action.embedded (fact_of (constant (codes "n")) ∷ []) (fact_of (constant (codes "o")) ∷ []) (fact_of (constant (codes "p")) ∷ []))
    written.nil))))))))))

-- each other form of a process, and a leaf of each kind
abbrev pub all_forms : Written
all_forms =
    written.parallel (written.replicated (written.call (codes "P") (constant (codes "q") ∷ variable x_is ∷ [])))
    (written.test (constant (codes "r")) (public (codes "r'")) (written.lookup (constant (codes "s")) x_is
    (written.act (action.out (constant (codes "t"))) written.nil) (written.act (action.out (constant (codes "u"))) written.nil))
    (written.act (action.out (fresh 0)) (written.act (action.out (constant (codes "v"))) written.nil)))

-- each form of a formula
abbrev pub all_formulas : form.Form
all_formulas =
    form.every [] (form.exists [] (form.implies (form.both (form.action (fact_of (constant (codes "a"))) (codes "i")) form.truth)
    (form.either (form.negation (form.equal (constant (codes "b")) (constant (codes "c")))) (form.equivalent
    (form.both (form.same_time (codes "i") (codes "j")) (form.action (fact_of (constant (codes "d"))) (codes "i")))
    (form.both (form.both (form.earlier (codes "i") (codes "j")) form.falsity) (form.equal (constant (codes "e")) (variable x_is)))))))

-- a definition of P, a process, and a formula
abbrev pub some_content : Content
some_content = record {
  signature = with_symbol (codes "h") 1;
  definitions = record { name = codes "P"; params = []; body = written.act (action.out (constant (codes "p"))) written.nil } ∷ [];
  process = written.act (action.out (constant (codes "q"))) written.nil;
  whole = act (action.out (constant (codes "q"))) nil;
  formulas = form.equal (constant (codes "r")) (constant (codes "s")) ∷ [];
}

-- a note
abbrev pub note : Kind → (from to : ℕ) → Note
note kind from to = record { kind = kind; word = stretch from to }

-- two lines, and what is told of a symbol in the first and of a definition in the second
abbrev pub two_lines : List ℕ
two_lines = codes "sdec\nA"

abbrev pub sdec_place : List ℕ
sdec_place = codes "line " ++ decimal 1 ++ codes ", column " ++ decimal 1 ++ codes "\n" ++ codes "sdec\n^^^^\n"

abbrev pub a_place : List ℕ
a_place = codes "line " ++ decimal 2 ++ codes ", column " ++ decimal 1 ++ codes "\n" ++ codes "A\n^\n"

-- each with its sentence on a line
abbrev pub sdec_told : List ℕ
sdec_told = sdec_place ++ (sentence [] OtherSymbol (codes "sdec") ++ (10 ∷ []))

abbrev pub a_told : List ℕ
a_told = a_place ++ (sentence [] UnusedDefinition (codes "A") ++ (10 ∷ []))
