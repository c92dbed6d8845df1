use Rattle.std.proofs.Common.{rules}
use Rattle.script.proofs.WhatWasWritten.{refused_bytes}
use Rattle.script.proofs.read_script.Goals as goal

pub returns-in_err-script-clause-written : goal.returns-in_err-script-clause-written
returns-in_err-script-clause-written c = search (rules, refused_bytes)
