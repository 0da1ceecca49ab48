use Rattle.std.proofs.Common.{ap₂, ◌∙◌}
use Rattle.std.proofs.lemmas.Result.{IfOk-weaker}
use Rattle.clap.specs.Simple.{with_subcommand}
use Rattle.command_words.proofs.command.command_line.Goals as goal

pub returns : goal.returns
returns c =
    let one = c.in_ok-command.ensures.app ∙ ap₂ with_subcommand c.program-command.ensures.app c.in_ok-session_command.ensures.shape in
    let two = c.in_ok-command-2.ensures.app ∙ ap₂ with_subcommand one c.in_ok-work_command.ensures.shape in
    let three = c.in_ok-command-3.ensures.app ∙ ap₂ with_subcommand two c.lone_command.ensures.shape in
    let four = c.in_ok-command-4.ensures.app ∙ ap₂ with_subcommand three c.in_ok-solve_command.ensures.shape in
    let five = c.in_ok-command-5.ensures.app ∙ ap₂ with_subcommand four c.lone_command-2.ensures.shape in
    let six = c.in_ok-command-6.ensures.app ∙ ap₂ with_subcommand five c.lone_command-3.ensures.shape in
    let seven = c.in_ok-command-7.ensures.app ∙ ap₂ with_subcommand six c.in_ok-load_command.ensures.shape in
    IfOk-weaker c.with_subcommand-8.result _ _ (λ r h. h ∙ ap₂ with_subcommand seven c.in_ok-serve_command.ensures.shape) c.with_subcommand-8.ensures.app
