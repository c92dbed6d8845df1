use Rattle.std.proofs.Common.{rules, map, vec_items, ◌≡◌, ◌∙◌, w32}
use Rattle.std.specs.Int.{from_be_bytes}
use Rattle.words.proofs.Whole.{whole_chunks}
use Rattle.words.proofs.words_of.Goals as goal

pub returns : goal.returns
returns c =
    let read : vec_items c.in_ok-words.words ≡ map (from_be_bytes w32) c.as_chunks.result.0.now = search rules in
    read ∙ rw c.as_chunks.ensures.front (whole_chunks c.args.bytes.now)
