-- What the tables of a conversion of lines of rules say of both sides.
use Rattle.std.specs.Prelude.{◌≡◌, ℕ, false, true, List, Option, Some, None, length, slice_get}
use Rattle.sap_terms.specs.AdversaryFacts.{out_fact}
use Rattle.sap_terms.specs.Reserved.{is_reserved}
use Rattle.sap_terms.specs.Tree.{Tree, fresh}
use Rattle.sap_terms.specs.declared.fact.Fact.{Fact}
use Rattle.sap_process.specs.Configuration.{Config}
use Rattle.sap_process.specs.Proc.{Proc}
use Rattle.sap_rule.specs.RuleSteps.{RuleState}
use Rattle.sap_templates.specs.ChannelFacts.{fresh_fact}
use Rattle.sap_translate.specs.Members.{Member}
use Rattle.sap_translate.specs.relation.Agents.{Agent, stands_as, unborn}
use Rattle.sap_translate.specs.relation.Counts.{is_control}
use Rattle.sap_process_lines.specs.Tables.{ProcessTables}

-- the entry with this number is the term that is pending, or nothing is
abbrev pub IsPending : List Tree → Option Tree → Option ℕ → Type 0
IsPending es None k = k ≡ None
IsPending es (Some x) k = (e : ℕ) × (k ≡ Some e) × (slice_get es e ≡ Some x)

-- the tables are those of these threads, of what is pending, of this configuration with these entries, and of this state of rules
pub record AreProcessTables (agents : List (Option Agent)) (pending : Option Tree) (c : Config) (es : List Tree) (s : RuleState) (tables : ProcessTables) : Type 0 where
  -- a live fact of control stands for its thread, and no other fact that is the same does
  pub owners : (k t : ℕ) (f : Fact) → is_control f ≡ true → slice_get s.facts k ≡ Some (Some f) → slice_get tables.facts k ≡ Some t
      → (a : Agent) × (slice_get agents t ≡ Some (Some a)) × Member f (stands_as a)
  pub apart : (k j t : ℕ) (f : Fact) → is_control f ≡ true → slice_get s.facts k ≡ Some (Some f) → slice_get s.facts j ≡ Some (Some f)
      → slice_get tables.facts k ≡ Some t → slice_get tables.facts j ≡ Some t → k ≡ j
  -- a live fact with a name of its own is live there too, and no other is the same
  pub piles : (k j : ℕ) (f : Fact) → is_reserved f.name ≡ false → slice_get s.facts k ≡ Some (Some f) → slice_get tables.facts k ≡ Some j
      → slice_get c.facts j ≡ Some (Some f)
  pub pile_apart : (k i j : ℕ) (f h : Fact) → is_reserved f.name ≡ false → is_reserved h.name ≡ false → slice_get s.facts k ≡ Some (Some f) → slice_get s.facts i ≡ Some (Some h)
      → slice_get tables.facts k ≡ Some j → slice_get tables.facts i ≡ Some j → k ≡ i
  -- what is put out is an entry, and Fr is made of its name
  pub sent : (k e : ℕ) (x : Tree) → slice_get s.facts k ≡ Some (Some (out_fact x)) → slice_get tables.facts k ≡ Some e → slice_get es e ≡ Some x
  pub made : (k n : ℕ) (x : Tree) → slice_get s.facts k ≡ Some (Some (fresh_fact x)) → slice_get tables.facts k ≡ Some n → x ≡ fresh n
  -- the entries are the same terms
  pub entries : (k e : ℕ) → slice_get tables.entries k ≡ Some e → slice_get es e ≡ slice_get s.known k
  pub waits : IsPending es pending tables.pending
  -- only the first thread is unborn
  pub unborn : (t : ℕ) (body : Proc) → slice_get agents t ≡ Some (Some (unborn body)) → t ≡ 0
  -- there is a number for each fact and for each entry
  pub all_facts : length tables.facts ≡ length s.facts
  pub all_entries : length tables.entries ≡ length s.known
  pub threads : tables.threads ≡ length agents
  pub known : tables.known ≡ length es
  pub piled : tables.piled ≡ length c.facts
