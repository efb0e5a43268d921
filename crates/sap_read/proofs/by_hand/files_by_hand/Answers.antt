use Rattle.sap_process.specs.declared.flaw.Flaw.TheVariants.{Unbound, ScopeFull}
use Rattle.sap_read.proofs.FilesByHand.{Longest, empty_is, endless_is, headless_is, quoting_is, whole_is, unbound_is, unlocking_is, timeless_is}
use Rattle.sap_read.proofs.by_hand.files_by_hand.Goals as goal

pub returns-clause-read : goal.returns-clause-read
returns-clause-read c =
    let longest : Longest = record {
      names = c.longest_tokens.ensures.names;
      numbers = c.longest_tokens.ensures.numbers;
      quoted = c.longest_tokens.ensures.quoted;
      symbols = c.longest_tokens.ensures.symbols;
    } in
    whole_is longest (c.flaws_by_hand.ensures.near ScopeFull).0 c.branches_by_hand.ensures.nothing

pub returns-clause-no_token : goal.returns-clause-no_token
returns-clause-no_token c =
    let longest : Longest = record {
      names = c.longest_tokens.ensures.names;
      numbers = c.longest_tokens.ensures.numbers;
      quoted = c.longest_tokens.ensures.quoted;
      symbols = c.longest_tokens.ensures.symbols;
    } in
    quoting_is longest

pub returns-clause-no_header : goal.returns-clause-no_header
returns-clause-no_header c =
    let longest : Longest = record {
      names = c.longest_tokens.ensures.names;
      numbers = c.longest_tokens.ensures.numbers;
      quoted = c.longest_tokens.ensures.quoted;
      symbols = c.longest_tokens.ensures.symbols;
    } in
    headless_is longest

pub returns-clause-no_end : goal.returns-clause-no_end
returns-clause-no_end c =
    let longest : Longest = record {
      names = c.longest_tokens.ensures.names;
      numbers = c.longest_tokens.ensures.numbers;
      quoted = c.longest_tokens.ensures.quoted;
      symbols = c.longest_tokens.ensures.symbols;
    } in
    endless_is longest

pub returns-clause-no_process : goal.returns-clause-no_process
returns-clause-no_process c =
    let longest : Longest = record {
      names = c.longest_tokens.ensures.names;
      numbers = c.longest_tokens.ensures.numbers;
      quoted = c.longest_tokens.ensures.quoted;
      symbols = c.longest_tokens.ensures.symbols;
    } in
    empty_is longest

pub returns-clause-unbound : goal.returns-clause-unbound
returns-clause-unbound c =
    let longest : Longest = record {
      names = c.longest_tokens.ensures.names;
      numbers = c.longest_tokens.ensures.numbers;
      quoted = c.longest_tokens.ensures.quoted;
      symbols = c.longest_tokens.ensures.symbols;
    } in
    unbound_is longest (c.flaws_by_hand.ensures.flawed Unbound).0

pub returns-clause-without_lock : goal.returns-clause-without_lock
returns-clause-without_lock c =
    let longest : Longest = record {
      names = c.longest_tokens.ensures.names;
      numbers = c.longest_tokens.ensures.numbers;
      quoted = c.longest_tokens.ensures.quoted;
      symbols = c.longest_tokens.ensures.symbols;
    } in
    unlocking_is longest (c.flaws_by_hand.ensures.near ScopeFull).1.0 c.annotations_by_hand.ensures.no_lock

pub returns-clause-no_time : goal.returns-clause-no_time
returns-clause-no_time c =
    let longest : Longest = record {
      names = c.longest_tokens.ensures.names;
      numbers = c.longest_tokens.ensures.numbers;
      quoted = c.longest_tokens.ensures.quoted;
      symbols = c.longest_tokens.ensures.symbols;
    } in
    timeless_is longest (c.flaws_by_hand.ensures.near ScopeFull).0 c.branches_by_hand.ensures.nothing
