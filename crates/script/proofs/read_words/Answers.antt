use Rattle.std.proofs.Common.{Ok, rules}
use Rattle.script.specs.declared.Script.{Script}
use Rattle.script.specs.Scripts.{ReadAs}
use Rattle.script.proofs.WhatWasWritten.{written_by_answer}
use Rattle.script.proofs.read_words.Goals as goal

pub returns-in_err-calls : goal.returns-in_err-calls
returns-in_err-calls c =
    let words = c.args.words.now in
    let r = c.from_residual-in_err-calls.result in
    let h : ReadAs words r = search rules in
    record { read = h; written = written_by_answer words r h }

pub returns : goal.returns
returns c =
    let words = c.args.words.now in
    let script : Script = record { rates = c.in_ok-head.head.rates; calls = c.in_ok-calls.calls; tape = c.in_ok-calls.tape } in
    let h : ReadAs words (Ok script) = search rules in
    record { read = h; written = written_by_answer words (Ok script) h }
