use Rattle.std.proofs.Common.{Ok, rules}
use Rattle.sheet.specs.declared.read.ReadSheet.{ReadSheet}
use Rattle.sheet.specs.Sheets.{ReadAs}
use Rattle.sheet.proofs.FaultPlaces.{placed_by_answer}
use Rattle.sheet.proofs.WhatWasWritten.{written_by_answer}
use Rattle.sheet.proofs.read.ReadSheet.from_words.Goals as goal

pub returns-in_err-table : goal.returns-in_err-table
returns-in_err-table c =
    let words = c.args.words.now in
    let r = c.from_residual.result in
    let h : ReadAs words r = search rules in
    record { read = h; written = written_by_answer words r h; placed = placed_by_answer words r h }

pub returns : goal.returns
returns c =
    let words = c.args.words.now in
    let sheet : ReadSheet = record { table = c.in_ok-table.table; cues = c.in_ok-table.cues } in
    let h : ReadAs words (Ok sheet) = search rules in
    record { read = h; written = written_by_answer words (Ok sheet) h; placed = tt }
