-- What became of work that changes a volume where it stands, and how it is told.
use Rattle.std.specs.Prelude.{ℕ, Bool, ◌++◌, codes, decimal, if◌then◌else◌}
use Rattle.file_listings.specs.DosText.{Text, line}
use Rattle.vol_mover.specs.declared.report.Report.{Report}
use Rattle.shop_replies.specs.declared.refusal.Failure.TheVariants as failures
use Rattle.shop_replies.specs.Reply.{failure_line, status_of, text_of}
use Rattle.shop_changes.specs.declared.outcome.Outcome.{Outcome}
use Rattle.shop_changes.specs.declared.outcome.Outcome.TheVariants.{Optimized, Changed, Stopped, Unfinished}

-- how many moves were made, the rings and the misplaced parts that there were, the writes of the map, and whether all
-- is done
abbrev pub report_line : ℕ → ℕ → ℕ → ℕ → Bool → Text
report_line moves rings misplaced map_writes finished =
    codes "moves " ++ (decimal moves ++ (codes " rings " ++ (decimal rings ++ (codes " misplaced " ++ (decimal misplaced
    ++ (codes " map writes " ++ (decimal map_writes
    ++ (codes " " ++ (if finished then codes "finished" else codes "stopped")))))))))

-- the line of a report with its end, and behind it the certificate
abbrev pub line_of_report : {A : Type 0} → Report A → Text
line_of_report report = line (report_line report.moves report.rings report.misplaced report.map_writes report.finished)

abbrev pub report_text : {A : Type 0} → Report A → Text
report_text report = line_of_report report ++ report.cert.items

-- its status: 0 where the work is done, 4 where a step of it failed, else that of the reply
abbrev pub outcome_status : Outcome → ℕ
outcome_status (Optimized report) = 0
outcome_status Changed = 0
outcome_status Stopped = 4
outcome_status (Unfinished reply) = status_of reply

-- what is written of it: the line of the report and the certificate, `OK`, that the device failed, or the text of the
-- reply
abbrev pub outcome_text : Outcome → Text
outcome_text (Optimized report) = report_text report
outcome_text Changed = codes "OK\n"
outcome_text Stopped = failure_line failures.Device
outcome_text (Unfinished reply) = text_of reply

-- the end of the line of a report
abbrev pub end_word : Bool → Text
end_word finished = if finished then codes " finished\n" else codes " stopped\n"
