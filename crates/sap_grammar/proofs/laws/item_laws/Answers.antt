use Rattle.sap_grammar.proofs.laws.item_laws.Goals as goal

pub returns : goal.returns
returns c =
    let cuts = c.words_are_cut.ensures in
    let headers = c.headers_are_read.ensures in
    let declarations = c.declarations_are_read.ensures in
    record {
      is_cut = cuts.cut;
      one_cut = cuts.one;
      one_header = headers.one;
      header_is = headers.found;
      header_none = headers.none;
      declares = declarations.sound;
      declared = declarations.complete;
      one_builtins = declarations.builtins;
      one_symbols = declarations.symbols;
    }
