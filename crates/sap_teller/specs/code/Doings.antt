-- What a line does, as the code finds it.
use Rattle.std.specs.Prelude.{ℕ, Bool, true, false, codes, List, [], ◌∷◌, ◌++◌, Some, None, map}
use Rattle.sap_called.specs.NamedTerms.{named_facts}
use Rattle.sap_called.specs.Names.{Draw}
use Rattle.sap_grammar.specs.FactText.{facts_text, arrow_text}
use Rattle.sap_grammar.specs.TermText.{variable_text}
use Rattle.sap_terms.specs.Tree.{Tree, fresh, public}
use Rattle.sap_terms.specs.View.{tree}
use Rattle.sap_terms.specs.declared.binding.Binding.{Binding}
use Rattle.sap_terms.specs.declared.fact.Fact.{Fact}
use Rattle.sap_tell.specs.Said.{applied_text, said_event, said_if, said_lookup, said_out, said_word, taken_on}
use Rattle.sap_tell.specs.ToldText.{call_text, term_told, bound_text, begins_text, ends_text, held_text, free_text}
use Rattle.sap_teller.specs.code.Framed.{trees_of_two}
use Rattle.sap_teller.specs.declared.doing.Doing.{Doing}
use Rattle.sap_teller.specs.declared.doing.Doing.TheVariants as does

-- what each variable of the bindings stands for
abbrev pub binding_texts : List Draw → List Binding → List (List ℕ)
binding_texts ds b = map (λ (e : Binding). bound_text ds (e.var, tree e.term)) b

-- the fact of an event, as it stands and as it is shown
abbrev pub event_text : List Draw → Fact → List Fact → List ℕ
event_text ds f [] = []
event_text ds f (h ∷ hs) = said_event ds f h

-- what is taken, and whether it is a pair of a channel and what comes on it
abbrev pub taken_text : List Draw → Tree → Bool → List ℕ
taken_text ds x true = taken_on ds x
taken_text ds x false = call_text (codes "in") (term_told ds x ∷ [])

-- what is done, where this is shown and these names were drawn
abbrev pub action_of : List Draw → List Fact → Doing → List ℕ
action_of ds label (does.Ends t) = codes "0"
action_of ds label (does.Splits t) = codes "|"
action_of ds label (does.Copies t) = codes "!"
action_of ds label (does.Makes x n) = codes "new " ++ variable_text x.now
action_of ds label (does.Sends m x) = said_out ds (tree m.now ∷ []) (tree x.now ∷ [])
action_of ds label (does.SendsOn stands is) = said_out ds (trees_of_two stands) (trees_of_two is)
action_of ds label (does.Meets stands x u b) = said_out ds (trees_of_two stands) (tree x ∷ tree u ∷ [])
action_of ds label (does.Takes x pair b) = taken_text ds (tree x.now) pair
action_of ds label (does.Compares stands x y same) = said_if ds (trees_of_two stands) (tree x ∷ tree y ∷ [])
action_of ds label (does.Shows f) = event_text ds f.now label
action_of ds label does.Nothing = []
action_of ds label (does.Inserts stands k v) = said_word (codes "insert") ds (trees_of_two stands) (tree k ∷ tree v ∷ [])
action_of ds label (does.Deletes m k) = said_word (codes "delete") ds (tree m.now ∷ []) (tree k ∷ [])
action_of ds label (does.Looks m k x o) = said_lookup (variable_text x.now) ds (tree m.now ∷ []) (tree k ∷ [])
action_of ds label (does.Holds m k true) = said_word (codes "lock") ds (tree m.now ∷ []) (tree k ∷ [])
action_of ds label (does.Holds m k false) = said_word (codes "unlock") ds (tree m.now ∷ []) (tree k ∷ [])
action_of ds label (does.Uses left right b d) = facts_text (named_facts ds left.now) ++ (arrow_text (named_facts ds label) ++ facts_text (named_facts ds right))
action_of ds label (does.Names n) = codes "new " ++ term_told ds (fresh n)
action_of ds label (does.Writes a) = term_told ds (public a.now)
action_of ds label (does.Gives x) = term_told ds (tree x.now)
action_of ds label (does.Applies f ks x) = applied_text ds f.now ks.now (tree x.now)

-- what comes of it beside what is shown and known
abbrev pub outcomes_of : List Draw → Doing → List (List ℕ)
outcomes_of ds (does.Ends t) = ends_text t ∷ []
outcomes_of ds (does.Splits t) = begins_text t ∷ []
outcomes_of ds (does.Copies t) = begins_text t ∷ []
outcomes_of ds (does.Makes x n) = bound_text ds (x.now, fresh n) ∷ []
outcomes_of ds (does.Sends m x) = []
outcomes_of ds (does.SendsOn stands is) = []
outcomes_of ds (does.Meets stands x u b) = binding_texts ds b
outcomes_of ds (does.Takes x pair b) = binding_texts ds b
outcomes_of ds (does.Compares stands x y true) = codes "then" ∷ []
outcomes_of ds (does.Compares stands x y false) = codes "else" ∷ []
outcomes_of ds (does.Shows f) = []
outcomes_of ds does.Nothing = []
outcomes_of ds (does.Inserts stands k v) = []
outcomes_of ds (does.Deletes m k) = []
outcomes_of ds (does.Looks m k x None) = codes "nothing there" ∷ []
outcomes_of ds (does.Looks m k x (Some v)) = bound_text ds (x.now, tree v.now) ∷ []
outcomes_of ds (does.Holds m k true) = held_text ds (tree k) ∷ []
outcomes_of ds (does.Holds m k false) = free_text ds (tree k) ∷ []
outcomes_of ds (does.Uses left right b d) = binding_texts ds b ++ binding_texts ds d.now
outcomes_of ds (does.Names n) = []
outcomes_of ds (does.Writes a) = []
outcomes_of ds (does.Gives x) = []
outcomes_of ds (does.Applies f ks x) = []
