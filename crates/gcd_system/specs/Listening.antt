-- Whether the poller over the system accepts connections.
use Rattle.std.specs.Prelude.{Bool, is_some}
use Rattle.gcd_system.specs.declared.net_poller.NetPoller.{NetPoller}

-- a listen has succeeded
abbrev pub is_listening : {A B C D : Type 0} → NetPoller A B C D → Bool
is_listening poller = is_some poller.listener
