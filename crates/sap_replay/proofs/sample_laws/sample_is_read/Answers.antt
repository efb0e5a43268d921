use Rattle.sap_replay.proofs.SampleRead as read
use Rattle.sap_replay.proofs.sample_laws.sample_is_read.Goals as goal

pub returns : goal.returns
returns c =
    read.sample_is_read (record {
      names = c.longest_tokens.ensures.names;
      quoted = c.longest_tokens.ensures.quoted;
      symbols = c.longest_tokens.ensures.symbols;
    })
