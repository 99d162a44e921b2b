use Rattle.std.proofs.Common.{◌≡◌, ◌∙◌, ap, arith, Some, if◌then◌else◌, Option, ℕ, ◌+◌, suc}
use Rattle.pro_dir.specs.declared.entry.Entry.{Entry}
use Rattle.pro_dir.specs.Parents.{leads_to, last_directory}
use Rattle.pro_dir.proofs.parents.directories_of.Goals as goal

one_more : (n : ℕ) → suc n ≡ n + 1
one_more n = omega arith

pub loop-number-preserved : goal.loop-number-preserved
loop-number-preserved g c =
    let now = c.loop-number in
    let entries = c.args.entries.now in
    record {
      known = λ key. c.note.ensures.known key ∙ ap (λ (old : Option ℕ). if leads_to c.entry_at.result.now key then Some now.number else old) (now.invariant.known key)
          ∙ ap (λ (e : Entry). if leads_to e key then Some now.number else last_directory entries now.number key) c.entry_at.ensures
          ∙ ap (λ count. last_directory entries count key) (one_more now.number);
      room = λ k within directory. omega (arith, now.invariant.room k within directory, c.note.ensures.size);
    }
