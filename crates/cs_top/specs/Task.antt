-- What the program does today, of all that words may ask for.
use Rattle.std.specs.Prelude.{List, ℕ, Option, Some, None, option_and_then}
use Rattle.command_words.specs.Asked.{Asked, asked, limits, load, replay, serve, session, solve, verify, work}
use Rattle.cs_top.specs.declared.task.Task.{Task}
use Rattle.cs_top.specs.declared.task.Task.TheVariants.{Session, Solve, Limits, Verify, Replay}

abbrev pub task_of : Asked → Option Task
task_of (session owner role journal) = Some (Session owner role)
task_of (solve params) = Some (Solve params)
task_of limits = Some Limits
task_of (work journal) = None
task_of replay = Some Replay
task_of verify = Some Verify
task_of (load seed) = None
task_of (serve server) = None

-- What these words have the program do; they begin with its name.
abbrev pub task_asked : List (List ℕ) → Option Task
task_asked words = option_and_then task_of (asked words)
