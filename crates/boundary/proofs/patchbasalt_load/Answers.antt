use Rattle.std.proofs.Common.{◌≡◌, ℕ, ◌≤◌, List, Ok, Err, Result, sym, subst, inl, inr, rules}
use Rattle.std.specs.Result.{MatchResult}
use Rattle.sheet.specs.Sheets.{contents, reading_bytes}
use Rattle.sheet.specs.declared.read.ReadSheet.{ReadSheet}
use Rattle.boundary.specs.Rounds.{Demands, Found, Told}
use Rattle.boundary.proofs.patchbasalt_load.Goals as goal

told :
    {E : Type 0} (bytes : List ℕ) (rounds : ℕ) (sheet : ReadSheet) (found : Result ℕ E) (answer : ℕ)
    → reading_bytes bytes ≡ Ok (contents sheet)
    → Found sheet rounds found
    → MatchResult found (λ demand. answer ≡ demand) (λ _. answer ≡ 18446744073709551615)
    → Told bytes rounds answer
told bytes rounds sheet (Ok demand) answer read holds same = inr (sheet, read, subst (λ n. 1 ≤ rounds → Demands sheet n) (sym same) holds)
told bytes rounds sheet (Err e) answer read holds same = inl same

pub returns : goal.returns
returns c = told c.args.sheet.now c.args.rounds c.in-Ok.read c.demand_after.result c.map_or.result c.in-Ok.ensures.read c.demand_after.ensures (search rules)
