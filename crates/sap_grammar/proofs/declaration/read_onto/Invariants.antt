use Rattle.std.proofs.Common.{◌≡◌, ◌<◌, ◌+◌, ℕ, length}
use Rattle.std.specs.Prelude.{map}
use Rattle.sap_grammar.specs.Words.{words_of}
use Rattle.sap_grammar.specs.ItemReading.{declaration_at, in_front, whole_list}
use Rattle.sap_grammar.specs.code.DeclarationView.{declaration}
use Rattle.sap_grammar.proofs.declaration.read_onto.Given as goal

abbrev pub invariant-loop-rest : goal.invariant-loop-rest
invariant-loop-rest l =
    (n : ℕ) × (length l.rest < n)
    × (in_front (map declaration l.initial.list.items) (whole_list (declaration_at l.fn.of_builtins) (length l.fn.tokens + 1) (words_of l.fn.bytes l.fn.tokens))
    ≡ in_front (map declaration l.list.items) (whole_list (declaration_at l.fn.of_builtins) n (words_of l.fn.bytes l.rest)))

abbrev pub decreases-loop-rest : goal.decreases-loop-rest
decreases-loop-rest l = length l.rest
