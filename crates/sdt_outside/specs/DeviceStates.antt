-- The states of the devices that this crate has, by their fields.
use Rattle.sdt_outside.specs.declared.device.DeviceState.{DeviceState}
use Rattle.sdt_outside.specs.declared.device.DeviceState.TheVariants.{TimerState, UartState}
use Rattle.sdt_outside.specs.declared.device.timer.Timer.{Timer}
use Rattle.sdt_outside.specs.declared.device.uart.Uart.{Uart}

abbrev pub timer_state : Timer → DeviceState
timer_state timer = TimerState timer.period timer.control timer.count timer.line_up

abbrev pub uart_state : Uart → DeviceState
uart_state uart = UartState uart.last uart.number
